use Rattle.pr_flat.proofs.ValueLemmas.{row_of-at}
use Rattle.pr_flat.proofs.laws.row_law.Goals as goal

pub returns : goal.returns
returns c = λ equations outputs flat widths before sample i e there. row_of-at equations outputs widths before sample i e flat there
