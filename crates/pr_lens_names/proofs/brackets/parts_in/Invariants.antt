use Rattle.pr_lens_names.proofs.BracketLemmas.{AreParts}
use Rattle.pr_lens_names.proofs.brackets.parts_in.Given as goal

abbrev pub invariant-loop-at : goal.invariant-loop-at
invariant-loop-at l = AreParts l.source.tokens.now l.from l.at l.depth l.commas
