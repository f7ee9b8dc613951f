use Rattle.pr_move.proofs.MovingLemmas.{lines_after, runs_after}
use Rattle.pr_move.proofs.laws.moving_law.Goals as goal

pub returns : goal.returns
returns c = record {
  lines = λ N P k xs ys. lines_after N P k xs ys;
  runs = λ N P k xs ys p q r whole first last good some hp hq hr. runs_after N P k xs ys p q r whole first last good some hp hq hr;
}
