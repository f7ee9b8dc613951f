use Rattle.std.proofs.Common.{◌<◌, ◌≤◌, ◌≢◌, ℕ}
use Rattle.pr_lens_source.specs.Tokens.{kind_of}
use Rattle.pr_lens_needs.proofs.smaller.first_of.Given as goal

abbrev pub invariant-loop-token : goal.invariant-loop-token
invariant-loop-token l = (k : ℕ) → l.from ≤ k → k < l.token → kind_of l.source.tokens.now k ≢ l.kind
