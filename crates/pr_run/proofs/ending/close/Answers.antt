use Rattle.std.proofs.Common.{sym, subst, cond, Bool, [], ◌-◌}
use Rattle.pr_edge.specs.Tape.{Appends, AppendsFront}
use Rattle.pr_log.specs.Lines.{end_line_of}
use Rattle.pr_run.proofs.Ends.{ran_done, ran_end_cut}
use Rattle.pr_run.proofs.ending.close.Goals as goal

pub returns-in-Ok-clause-ran : goal.returns-in-Ok-clause-ran
returns-in-Ok-clause-ran g c = λ s f now set is fin.
    let line = end_line_of c.time-cycles.result (c.args.asked - c.time-cycles.result) c.left-results.result in
    ran_done s c.args.machine.now f now (g.K.Sink.view c.args.out.now).told (g.K.Sink.view c.write_end.new.out).told c.args.asked c.time-cycles.result c.left-results.result set fin
    (λ h st. c.time-cycles.ensures.told s.conf s.stripes h st) (λ h st. c.left-results.ensures.told s.conf s.stripes h st)
    (subst (λ (b : Bool). Appends (g.K.Sink.view c.args.out.now).told (g.K.Sink.view c.write_end.new.out).told (cond b line [])) (sym is) c.in-Ok.ensures.all)

pub returns-in-Err-clause-ran : goal.returns-in-Err-clause-ran
returns-in-Err-clause-ran g c = λ s f now set is fin.
    let line = end_line_of c.time-cycles.result (c.args.asked - c.time-cycles.result) c.left-results.result in
    ran_end_cut s c.args.machine.now f now (g.K.Sink.view c.args.out.now).told (g.K.Sink.view c.write_end.new.out).told c.args.asked c.time-cycles.result c.left-results.result set fin
    (λ h st. c.time-cycles.ensures.told s.conf s.stripes h st) (λ h st. c.left-results.ensures.told s.conf s.stripes h st)
    (subst (λ (b : Bool). AppendsFront (g.K.Sink.view c.args.out.now).told (g.K.Sink.view c.write_end.new.out).told (cond b line [])) (sym is) c.in-Err.ensures.front)
