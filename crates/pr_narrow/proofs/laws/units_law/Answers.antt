use Rattle.pr_narrow.proofs.UnitsTied.{net_stays}
use Rattle.pr_narrow.proofs.laws.units_law.Goals as goal

pub returns : goal.returns
returns c = net_stays
