use Rattle.pr_lens_names.proofs.BracketLemmas.{IsPastAt}
use Rattle.pr_lens_names.proofs.brackets.square_around.Given as goal

abbrev pub invariant-loop-at : goal.invariant-loop-at
invariant-loop-at l = IsPastAt l.source.tokens.now l.token l.at l.closed

abbrev pub decreases-loop-at : goal.decreases-loop-at
decreases-loop-at l = l.at
