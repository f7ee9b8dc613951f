use Rattle.std.proofs.Common.{◌-◌, arith, map, refl}
use Rattle.pr_conf.specs.Configuration.{pes_of}
use Rattle.pr_lens_rtl.specs.Kept.{stage_needed, stages_needed}
use Rattle.pr_lens_rtl_terms.proofs.DownLemmas.{down_begun, down_done, down_more}
use Rattle.pr_lens_rtl_terms.proofs.MarkLemmas.{stages_down}
use Rattle.pr_lens_rtl_terms.proofs.marks.mark_stages.Goals as goal

pub loop-left-init : goal.loop-left-init
loop-left-init g c = record {
  within = omega arith;
  marked = down_begun (λ stages marks. stages_needed c.args.columns c.args.registers 0 (map pes_of stages) marks) c.args.stages.now _ c.args.marks.now refl;
}

pub loop-left-preserved : goal.loop-left-preserved
loop-left-preserved g c = record {
  within = omega (arith, c.loop-left.invariant.within);
  marked =
      rw (c.in_ok-mark_stage.ensures, c.as_slice-pes.ensures.value)
      (down_more (λ stages marks. stages_needed c.args.columns c.args.registers 0 (map pes_of stages) marks) (λ i stage marks. stage_needed c.args.columns c.args.registers i (pes_of stage) marks)
      (stages_down g.row.N c.args.columns c.args.registers)
      c.args.stages.now c.loop-left.left (c.loop-left.left - 1) _ c.index-stages-left.result c.loop-left.marks _ (omega (arith, c.loop-left-test.true)) c.loop-left.invariant.within refl c.loop-left.invariant.marked);
}

pub returns : goal.returns
returns g c =
    down_done (λ stages marks. stages_needed c.args.columns c.args.registers 0 (map pes_of stages) marks) (λ i stage marks. stage_needed c.args.columns c.args.registers i (pes_of stage) marks)
    (stages_down g.row.N c.args.columns c.args.registers)
    c.args.stages.now c.loop-left.left c.loop-left.marks _ c.loop-left-test.false c.loop-left.invariant.marked
