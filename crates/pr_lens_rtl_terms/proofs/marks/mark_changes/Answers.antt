use Rattle.std.proofs.Common.{◌-◌, arith, refl}
use Rattle.pr_lens_rtl.specs.Kept.{next_marked, nexts_marked}
use Rattle.pr_lens_rtl_terms.proofs.DownLemmas.{down_begun, down_done, down_more}
use Rattle.pr_lens_rtl_terms.proofs.MarkLemmas.{nexts_down}
use Rattle.pr_lens_rtl_terms.proofs.marks.mark_changes.Goals as goal

pub loop-left-init : goal.loop-left-init
loop-left-init c = record {
  within = omega arith;
  marked = down_begun (nexts_marked c.args.stage 0) c.args.pes.now _ c.args.marks.now refl;
}

pub loop-left-preserved : goal.loop-left-preserved
loop-left-preserved c = record {
  within = omega (arith, c.loop-left.invariant.within);
  marked =
      rw c.mark_change_of.ensures
      (down_more (nexts_marked c.args.stage 0) (λ i pe marks. next_marked pe.next c.args.stage i marks) (nexts_down c.args.stage)
      c.args.pes.now c.loop-left.left (c.loop-left.left - 1) _ _ c.loop-left.marks _ (omega (arith, c.loop-left-test.true)) c.loop-left.invariant.within refl c.loop-left.invariant.marked);
}

pub returns : goal.returns
returns c =
    down_done (nexts_marked c.args.stage 0) (λ i pe marks. next_marked pe.next c.args.stage i marks) (nexts_down c.args.stage)
    c.args.pes.now c.loop-left.left c.loop-left.marks _ c.loop-left-test.false c.loop-left.invariant.marked
