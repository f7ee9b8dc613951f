use Rattle.pr_cut_units.proofs.StartNets.{are_lawful}
use Rattle.pr_cut_units.proofs.laws.lawful_law.Goals as goal

pub returns : goal.returns
returns c = λ columns equations outputs widths. are_lawful columns equations widths outputs
