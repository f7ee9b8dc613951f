use Rattle.std.proofs.Common.{◌≡◌, ◌≤◌, length, take}
use Rattle.pr_lens_rtl.specs.Kept.{nexts_marked}
use Rattle.pr_lens_rtl_terms.proofs.marks.mark_changes.Given as goal

abbrev pub invariant-loop-left : goal.invariant-loop-left
invariant-loop-left l = record {
  within : l.left ≤ length l.pes;
  marked : nexts_marked l.stage 0 (take l.left l.pes) l.marks ≡ nexts_marked l.stage 0 l.pes l.fn.marks;
}

abbrev pub decreases-loop-left : goal.decreases-loop-left
decreases-loop-left l = l.left
