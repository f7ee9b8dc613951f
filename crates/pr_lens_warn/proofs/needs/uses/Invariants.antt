use Rattle.std.proofs.Common.{◌≡◌, ◌<◌, ℕ, true, false}
use Rattle.pr_lens_source.specs.Kinds.{is_semi}
use Rattle.pr_lens_source.specs.Tokens.{kind_of}
use Rattle.pr_lens_warn.specs.Needs.{is_use}
use Rattle.pr_lens_warn.proofs.needs.uses.Given as goal

abbrev pub invariant-loop-at : goal.invariant-loop-at
invariant-loop-at l = record {
  open_to : (k : ℕ) → l.statement < k → k < l.at → is_semi (kind_of l.source.tokens.now k) ≡ false;
  none : (k : ℕ) → l.statement < k → k < l.at → is_use l.source.text.now l.source.tokens.now l.source.spans.now l.assigned k ≡ true → ⊥;
}
