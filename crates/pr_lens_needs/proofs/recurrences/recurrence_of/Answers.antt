use Rattle.std.proofs.Common.{◌≡◌, ℕ, subst, inl, inr, arith}
use Rattle.std.proofs.lemmas.Bool.{cases_lt}
use Rattle.pr_cut_units.specs.Flats.{flat_plan}
use Rattle.pr_lens_needs.specs.Recurrences.{IsLastOf}
use Rattle.pr_lens_needs.proofs.recurrences.recurrence_of.Goals as goal

pub loop-rec-preserved : goal.loop-rec-preserved
loop-rec-preserved c = λ k h is. elim (cases_lt k c.loop-rec.rec) [
  | inl low ↦ c.loop-rec.invariant k low is
  | inr high ↦ (
      let at : k ≡ c.loop-rec.rec = omega (arith, h, high) in
      let last = c.is_last_of.ensures.1 (subst (λ (j : ℕ). IsLastOf (flat_plan c.args.flat.now c.args.widths.now) c.args.unit j) at is) in
      absurd (cc (last, c.if-is_last_of.false)))
]
