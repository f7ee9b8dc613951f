use Rattle.pr_lens_source.proofs.IntroducedLemmas.{IsBlockAt}
use Rattle.pr_lens_source.proofs.introduced.is_closed.Given as goal

abbrev pub invariant-loop-token : goal.invariant-loop-token
invariant-loop-token l = IsBlockAt l.source.tokens.now l.from l.at l.token l.depth
