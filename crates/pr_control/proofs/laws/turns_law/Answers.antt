use Rattle.std.proofs.Common.{sym, ◌∙◌}
use Rattle.pr_control.proofs.TurnLaws.{turns_round, turns_line, turn_zero'}
use Rattle.pr_control.proofs.laws.turns_law.Goals as goal

pub returns : goal.returns
returns c = record {
  round = λ v p t h hp. turns_round v p t h hp;
  line = λ v p t k h. turns_line v p t k h;
  none = λ v p h. let z = sym (turn_zero' v p) ∙ h in cc;
}
