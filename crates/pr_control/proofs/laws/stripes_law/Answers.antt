use Rattle.pr_control.proofs.ResidentLaws.{one_stage, one_stripe}
use Rattle.pr_control.proofs.laws.stripes_law.Goals as goal

pub returns : goal.returns
returns c = record {
  one_stage = λ v p t s r i h k. one_stage v p t s r i h k;
  one_stripe = λ v p t s i j hp h k. one_stripe v p t s i j hp h k;
}
