use Rattle.pr_lens_names.proofs.BracketLemmas.{IsDeepAt}
use Rattle.pr_lens_names.proofs.brackets.closing_of.Given as goal

abbrev pub invariant-loop-at : goal.invariant-loop-at
invariant-loop-at l = IsDeepAt l.source.tokens.now l.from l.at l.depth
