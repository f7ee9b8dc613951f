use Rattle.std.proofs.Common.{◌≡◌, ◌≤◌, length, take}
use Rattle.pr_lens_rtl.specs.Kept.{needed}
use Rattle.pr_lens_rtl_terms.specs.Terms.{assigns_of}
use Rattle.pr_lens_rtl_terms.proofs.marks.mark_lines.Given as goal

abbrev pub invariant-loop-left : goal.invariant-loop-left
invariant-loop-left l = record {
  within : l.left ≤ length l.lines;
  marked : needed (assigns_of (take l.left l.lines)) l.marks ≡ needed (assigns_of l.lines) l.fn.marks;
}

abbrev pub decreases-loop-left : goal.decreases-loop-left
decreases-loop-left l = l.left
