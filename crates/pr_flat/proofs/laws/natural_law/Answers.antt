use Rattle.pr_flat.proofs.RowLemmas.{natural_number-lt}
use Rattle.pr_flat.proofs.laws.natural_law.Goals as goal

pub returns : goal.returns
returns c = natural_number-lt
