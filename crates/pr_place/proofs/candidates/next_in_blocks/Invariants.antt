use Rattle.std.proofs.Common.{◌≡◌, ◌-◌, ◌≤◌}
use Rattle.std.specs.List.{find, range_with_len}
use Rattle.pr_place.specs.Candidates.{is_allowed}
use Rattle.pr_place.proofs.candidates.next_in_blocks.Given as goal

abbrev pub invariant-loop-at : goal.invariant-loop-at
invariant-loop-at l = record {
  rest : find (is_allowed l.ready l.allowed) (range_with_len l.at (l.to - l.at)) ≡ find (is_allowed l.ready l.allowed) (range_with_len l.from (l.to - l.from));
  inside : l.at ≤ l.to;
}

abbrev pub decreases-loop-at : goal.decreases-loop-at
decreases-loop-at l = l.to - l.at
