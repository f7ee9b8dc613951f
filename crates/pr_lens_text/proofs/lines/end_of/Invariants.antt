use Rattle.std.proofs.Common.{◌≤◌, ◌-◌, length}
use Rattle.pr_lens_text.specs.Places.{HasNoEnd}
use Rattle.pr_lens_text.proofs.lines.end_of.Given as goal

abbrev pub invariant-loop-end : goal.invariant-loop-end
invariant-loop-end l = record {
  least : l.offset ≤ l.end;
  within : l.end ≤ length l.text;
  none : HasNoEnd l.text l.offset l.end;
}

abbrev pub decreases-loop-end : goal.decreases-loop-end
decreases-loop-end l = length l.text - l.end
