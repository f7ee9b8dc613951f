use Rattle.std.proofs.Common.{◌≡◌, ℕ, subst, inl, inr, arith}
use Rattle.std.proofs.lemmas.Bool.{cases_lt}
use Rattle.pr_lens_needs.specs.Smaller.{HasNoOwnWidth}
use Rattle.pr_lens_needs.proofs.NeedLemmas.{none_left}
use Rattle.pr_lens_needs.proofs.smaller.width_token.Goals as goal

pub loop-rec-preserved : goal.loop-rec-preserved
loop-rec-preserved c = λ k from less. elim (cases_lt k c.loop-rec.rec) [
  | inl low ↦ c.loop-rec.invariant k from low
  | inr high ↦ (
      let a = c.args.asked.now in
      let at : c.loop-rec.rec ≡ k = omega (arith, less, high) in
      subst (λ (j : ℕ). HasNoOwnWidth a.source.text.now a.source.tokens.now a.rec a.width c.args.to j) at (none_left _ c.in_default.not-Some c.in_ok-token.ensures.none))
]

pub returns-clause-none : goal.returns-clause-none
returns-clause-none c = λ rec from less. c.loop-rec.invariant rec from (omega (arith, c.loop-rec-test.false, less))
