use Rattle.pr_control.proofs.ResidentLaws.{resides_while, computes_while, computes_no_more, computes_ever}
use Rattle.pr_control.proofs.laws.lasting_law.Goals as goal

pub returns : goal.returns
returns c = record {
  resides = λ v p t s i u h hp e a b. resides_while v p t s i u h hp e a b;
  computes = λ v p t s i u h hp e a b. computes_while v p t s i u h hp e a b;
  ends = λ v p t s i h hp e k. computes_no_more v p t s i k.0 h hp e k.1;
  stays = λ v p t s i u h hp e a. computes_ever v p t s i u h hp e a;
}
