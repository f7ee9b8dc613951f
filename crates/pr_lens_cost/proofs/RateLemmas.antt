-- As many samples more as the rate says take as many cycles more.
use Rattle.std.proofs.Common.{◌≡◌, ℕ, zero, suc, ◌+◌, ◌-◌, ◌*◌, ◌/◌, ◌%◌, ◌<◌, ◌≤◌, leb, sym, ap, ◌∙◌, subst, arith, inl, inr}
use Rattle.std.proofs.lemmas.Bool.{lt-leb, le-leb, cases_lt, cond-true, cond-false}
use Rattle.std.proofs.Math.Nat.{add-mod_right, add-div_right, mul-suc}
use Rattle.pr_control.specs.Counts.{cycles_of}
use Rattle.pr_lens_cost.specs.declared.cycles.Rate.{Rate}
use Rattle.pr_lens_cost.specs.Rates.{rate_of}

-- a stripe for each stage
line : (v p m : ℕ) → v ≤ p → cycles_of v p (suc m + 1) ≡ cycles_of v p (suc m) + 1
line v p m h =
    let e : suc m + 1 ≡ suc (m + 1) = omega arith in
    let f = le-leb v p h in
    let a : cycles_of v p (suc (m + 1)) ≡ suc (m + 1) + v = cond-true (leb v p) _ _ f in
    let b : cycles_of v p (suc m) ≡ suc m + v = cond-true (leb v p) _ _ f in
    let c : suc (m + 1) + v ≡ suc m + v + 1 = omega arith in
    ap (cycles_of v p) e ∙ (a ∙ (c ∙ ap (λ x. x + 1) (sym b)))

-- fewer stripes than stages
ring : (v p m : ℕ) → p < v → 2 ≤ p → cycles_of v p (suc m + (p - 1)) ≡ cycles_of v p (suc m) + v
ring v p m h two =
    let q = p - 1 in
    let e : suc m + q ≡ suc (m + q) = omega arith in
    let f = lt-leb v p h in
    let a : cycles_of v p (suc (m + q)) ≡ v * ((m + q) / q + 1) + (m + q) % q + 1 = cond-false (leb v p) _ _ f in
    let b : cycles_of v p (suc m) ≡ v * (m / q + 1) + m % q + 1 = cond-false (leb v p) _ _ f in
    let d : (m + q) / q ≡ m / q + 1 = add-div_right m (let some : 0 < q = omega arith in some) in
    let r : (m + q) % q ≡ m % q = add-mod_right m q in
    let k : (m + q) / q + 1 ≡ suc (m / q + 1) = omega arith in
    let w : v * ((m + q) / q + 1) ≡ v * (m / q + 1) + v = ap (λ x. v * x) k ∙ mul-suc v (m / q + 1) in
    let c : v * ((m + q) / q + 1) + (m + q) % q + 1 ≡ v * (m / q + 1) + m % q + 1 + v = omega arith in
    ap (cycles_of v p) e ∙ (a ∙ (c ∙ ap (λ x. x + v) (sym b)))

pub rate_step : (v p n : ℕ) → 2 ≤ p → 0 < n → cycles_of v p (n + (rate_of v p).samples) ≡ cycles_of v p n + (rate_of v p).cycles
rate_step v p zero two some = absurd (omega arith)
rate_step v p (suc m) two some = elim (cases_lt p v) [
  | inl h ↦ (
      let same : rate_of v p ≡ record { samples = p - 1; cycles = v } = cond-false (leb v p) _ _ (lt-leb v p h) in
      subst (λ (r : Rate). cycles_of v p (suc m + r.samples) ≡ cycles_of v p (suc m) + r.cycles) (sym same) (ring v p m h two))
  | inr h ↦ (
      let same : rate_of v p ≡ record { samples = 1; cycles = 1 } = cond-true (leb v p) _ _ (le-leb v p h) in
      subst (λ (r : Rate). cycles_of v p (suc m + r.samples) ≡ cycles_of v p (suc m) + r.cycles) (sym same) (line v p m h))
]
