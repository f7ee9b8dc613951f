use Rattle.pr_cut_laws.proofs.Outputs.{net_lists}
use Rattle.pr_cut_laws.proofs.laws.net_law.Goals as goal

pub returns : goal.returns
returns c = λ equations outputs widths flat all samples rows. net_lists equations outputs widths samples flat all rows
