use Rattle.std.proofs.Common.{◌<◌, ◌≤◌, ℕ}
use Rattle.pr_lens_needs.specs.Smaller.{HasNoOwnWidth}
use Rattle.pr_lens_needs.proofs.smaller.width_token.Given as goal

abbrev pub invariant-loop-rec : goal.invariant-loop-rec
invariant-loop-rec l = (k : ℕ) → l.from ≤ k → k < l.rec → HasNoOwnWidth l.asked.source.text.now l.asked.source.tokens.now l.asked.rec l.asked.width l.to k
