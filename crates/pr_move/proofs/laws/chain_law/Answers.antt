use Rattle.pr_move.proofs.MovingLemmas.{chain}
use Rattle.pr_move.proofs.laws.chain_law.Goals as goal

pub returns : goal.returns
returns c = λ N P count k xs ys. chain N P count k xs ys
