use Rattle.std.proofs.Common.{◌-◌, ◌∷◌, [], arith, refl}
use Rattle.pr_lens_rtl.specs.Kept.{needed}
use Rattle.pr_lens_rtl_terms.specs.Terms.{assign_of, assigns_of}
use Rattle.pr_lens_rtl_terms.proofs.DownLemmas.{down_begun, down_done, down_more}
use Rattle.pr_lens_rtl_terms.proofs.MarkLemmas.{lines_down}
use Rattle.pr_lens_rtl_terms.proofs.marks.mark_lines.Goals as goal

pub loop-left-init : goal.loop-left-init
loop-left-init c = record {
  within = omega arith;
  marked = down_begun (λ lines marks. needed (assigns_of lines) marks) c.args.lines.now _ c.args.marks.now refl;
}

pub loop-left-preserved : goal.loop-left-preserved
loop-left-preserved c = record {
  within = omega (arith, c.loop-left.invariant.within);
  marked =
      rw c.mark_line.ensures
      (down_more (λ lines marks. needed (assigns_of lines) marks) (λ i line marks. needed (assign_of line ∷ []) marks) lines_down
      c.args.lines.now c.loop-left.left (c.loop-left.left - 1) _ _ c.loop-left.marks _ (omega (arith, c.loop-left-test.true)) c.loop-left.invariant.within refl c.loop-left.invariant.marked);
}

pub returns : goal.returns
returns c =
    down_done (λ lines marks. needed (assigns_of lines) marks) (λ i line marks. needed (assign_of line ∷ []) marks) lines_down
    c.args.lines.now c.loop-left.left c.loop-left.marks _ c.loop-left-test.false c.loop-left.invariant.marked
