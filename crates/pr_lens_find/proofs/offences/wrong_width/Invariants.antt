use Rattle.std.proofs.Common.{◌<◌, ℕ, get_or}
use Rattle.pr_lens_find.specs.Offences.{IsWrongWidth}
use Rattle.pr_lens_find.proofs.offences.wrong_width.Given as goal

abbrev pub invariant-loop-token : goal.invariant-loop-token
invariant-loop-token l = (k : ℕ) → k < l.token-index → IsWrongWidth l.source.tokens.now (get_or l.widths k 0) → ⊥
