use Rattle.pr_cut_plan.proofs.Parted.{parted}
use Rattle.pr_cut_plan.proofs.laws.parts_law.Goals as goal

pub returns : goal.returns
returns c = λ equations outputs widths flat wide. parted equations widths outputs flat wide
