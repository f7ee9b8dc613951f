use Rattle.pr_flat.proofs.NumberLemmas.{rows_of-have_widths}
use Rattle.pr_flat.proofs.laws.numbers_law.Goals as goal

pub returns : goal.returns
returns c = λ equations outputs widths flat wide samples. rows_of-have_widths equations outputs widths samples flat wide
