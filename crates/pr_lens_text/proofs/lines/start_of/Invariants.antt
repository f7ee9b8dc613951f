use Rattle.std.proofs.Common.{◌≤◌}
use Rattle.pr_lens_text.specs.Places.{HasNoEnd}
use Rattle.pr_lens_text.proofs.lines.start_of.Given as goal

abbrev pub invariant-loop-start : goal.invariant-loop-start
invariant-loop-start l = record {
  within : l.start ≤ l.offset;
  none : HasNoEnd l.text l.start l.offset;
}

abbrev pub decreases-loop-start : goal.decreases-loop-start
decreases-loop-start l = l.start
