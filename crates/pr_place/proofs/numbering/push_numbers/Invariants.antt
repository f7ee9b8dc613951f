use Rattle.std.proofs.Common.{◌≡◌, ◌+◌, ◌-◌, ◌++◌}
use Rattle.std.specs.List.{range_with_len}
use Rattle.pr_place.proofs.numbering.push_numbers.Given as goal

abbrev pub invariant-loop-i : goal.invariant-loop-i
invariant-loop-i l = l.numbers.items ++ range_with_len (l.from + l.i) (l.count - l.i) ≡ l.fn.numbers.items ++ range_with_len l.from l.count
