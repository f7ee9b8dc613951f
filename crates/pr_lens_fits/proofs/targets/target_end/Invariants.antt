use Rattle.std.proofs.Common.{◌≡◌, ◌≤◌, ◌<◌, ◌-◌, ℕ, false, length}
use Rattle.pr_lens_source.specs.Tokens.{kind_of}
use Rattle.pr_lens_fits.specs.Targets.{ends_target}
use Rattle.pr_lens_fits.proofs.targets.target_end.Given as goal

abbrev pub invariant-loop-end : goal.invariant-loop-end
invariant-loop-end l = record { behind : l.first ≤ l.end; before : (k : ℕ) → l.first ≤ k → k < l.end → ends_target (kind_of l.source.tokens.now k) ≡ false }

abbrev pub decreases-loop-end : goal.decreases-loop-end
decreases-loop-end l = length l.source.tokens.now - l.end
