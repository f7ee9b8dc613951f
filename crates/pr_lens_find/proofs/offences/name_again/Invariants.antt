use Rattle.std.proofs.Common.{◌≡◌, ◌<◌, ℕ, false, get_or}
use Rattle.pr_lens_find.specs.Offences.{is_again}
use Rattle.pr_lens_find.proofs.offences.name_again.Given as goal

abbrev pub invariant-loop-token : goal.invariant-loop-token
invariant-loop-token l =
    (k : ℕ) → k < l.token-index → is_again l.source.text.now l.source.tokens.now l.source.spans.now (get_or l.names k 0) ≡ false
