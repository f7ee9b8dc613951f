use Rattle.pr_control.proofs.ResidentLaws.{feeds}
use Rattle.pr_control.proofs.laws.feeding_law.Goals as goal

pub returns : goal.returns
returns c = λ v p t s i hp h. feeds v p t s i hp h
