use Rattle.std.proofs.Common.{◌∙◌, subst}
use Rattle.pr_edge.specs.Tape.{Appends, AppendsFront}
use Rattle.pr_tool_modes.specs.Generations.{generation_of}
use Rattle.pr_tool_modes.proofs.GenLemmas.{bench_more}
use Rattle.pr_tool_modes.proofs.GenVerdicts.{gen_none}
use Rattle.pr_tool_modes.proofs.generations.generate.Goals as goal

pub returns-in-Err-clause-ended : goal.returns-in-Err-clause-ended
returns-in-Err-clause-ended g c =
    gen_none (generation_of c.args.generation.now) (g.K.Sink.view c.args.out.now).told (g.K.Sink.view c.args.out.now).faults (g.K.Sink.view c.args.out.now).faults c.args.bench.now c.in-Err.answer c.in-Err.ensures.failed c.in-Err.ensures.refused

pub returns-in-Ok-write_all-clause-ended : goal.returns-in-Ok-write_all-clause-ended
returns-in-Ok-write_all-clause-ended g c =
    bench_more (generation_of c.args.generation.now) _ (Appends (g.K.Sink.view c.args.out.now).told (g.K.Sink.view c.write_all.new.sink).told) c.in-Ok.ran.bench
    (λ t e. subst (Appends (g.K.Sink.view c.args.out.now).told (g.K.Sink.view c.write_all.new.sink).told) (c.deref.ensures.value ∙ e) c.in-Ok-write_all.ensures.all) c.in-Ok.ensures.told

pub returns-clause-ended : goal.returns-clause-ended
returns-clause-ended g c = (
  bench_more (generation_of c.args.generation.now) _ (AppendsFront (g.K.Sink.view c.args.out.now).told (g.K.Sink.view c.write_all.new.sink).told) c.in-Ok.ran.bench
      (λ t e. subst (AppendsFront (g.K.Sink.view c.args.out.now).told (g.K.Sink.view c.write_all.new.sink).told) (c.deref.ensures.value ∙ e) c.in-Err-write_all.ensures.front) c.in-Ok.ensures.told,
  c.in-Err-write_all.ensures.cause,
)
