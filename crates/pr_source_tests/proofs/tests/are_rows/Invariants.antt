use Rattle.std.proofs.Common.{take}
use Rattle.std.specs.List.{All}
use Rattle.pr_base.specs.Rows.{IsRow}
use Rattle.pr_source_tests.proofs.tests.are_rows.Given as goal

abbrev pub invariant-loop-row : goal.invariant-loop-row
invariant-loop-row l = All (IsRow l.widths) (take l.row-index l.rows)
