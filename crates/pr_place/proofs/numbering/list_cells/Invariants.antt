use Rattle.std.proofs.Common.{◌≡◌, ◌++◌, drop}
use Rattle.pr_place.specs.Numbering.{group_numbers}
use Rattle.pr_place.proofs.numbering.list_cells.Given as goal

abbrev pub invariant-loop-unit : goal.invariant-loop-unit
invariant-loop-unit l = l.numbers.items ++ group_numbers l.units l.first (drop l.unit-index l.group) ≡ l.fn.numbers.items ++ group_numbers l.units l.first l.group
