use Rattle.pr_control.proofs.ResidentLaws.{occupant_resides, resides_occupant, turn_computes, computes_turn, turn_active, active_turn}
use Rattle.pr_control.proofs.laws.residence_law.Goals as goal

pub returns : goal.returns
returns c = record {
  held = λ v p t s i. (occupant_resides v p i t s, resides_occupant v p i t s);
  computes = λ v p t s hp hs. (turn_computes v p t s hp hs, λ h. computes_turn v p t s h.0 hp h.1);
  first = λ v p t hp hv. (turn_active v p t hp hv, active_turn v p t hp);
}
