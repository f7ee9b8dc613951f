use Rattle.pr_cut_laws.proofs.Outputs.{value_shown}
use Rattle.pr_cut_laws.proofs.laws.cut_law.Goals as goal

pub returns : goal.returns
returns c = λ equations outputs widths flat all samples rows i e there made. value_shown equations outputs widths samples i e flat all rows there made
