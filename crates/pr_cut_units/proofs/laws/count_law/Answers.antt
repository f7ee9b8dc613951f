use Rattle.pr_cut_units.specs.Nets.{net_of}
use Rattle.pr_cut_units.proofs.CountNets.{count_whole}
use Rattle.pr_cut_units.proofs.WideNets.{are_counted}
use Rattle.pr_cut_units.proofs.laws.count_law.Goals as goal

pub returns : goal.returns
unfolding net_of
returns c = λ equations outputs widths flat wide. count_whole equations widths outputs (are_counted equations outputs widths flat wide)
