use Rattle.std.proofs.Common.{[]}
use Rattle.pr_flat.proofs.ValueLemmas.{rows_of-at, length-rows_after}
use Rattle.pr_flat.proofs.laws.rows_law.Goals as goal

pub returns-clause-rows : goal.returns-clause-rows
returns-clause-rows c = rows_of-at

pub returns-clause-count : goal.returns-clause-count
returns-clause-count c = λ equations widths samples. length-rows_after equations widths [] samples
