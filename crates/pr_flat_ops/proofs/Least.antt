-- The least width of a number.
use Rattle.std.proofs.Common.{◌≡◌, ℕ, zero, suc, ◌+◌, ◌^◌, ◌<◌, ◌≤◌, Bool, true, false, nat_lt, Some, inl, inr, refl, sym, ap, arith, lit≤}
use Rattle.std.proofs.lemmas.Bool.{cases_eq, cases_lt, lt-ltb, le-ltb}
use Rattle.std.specs.Prelude.{unwrap_or}
use Rattle.pr_base.specs.Numbers.{IsLeastWidth}
use Rattle.pr_flat.specs.Forms.{least_from, number_width}

-- the first w that passes the test is found
pub least_from_is : (k at w : ℕ) (test : ℕ → Bool) → at ≤ w → w < at + k → test w ≡ true → ((v : ℕ) → at ≤ v → v < w → test v ≡ false) → least_from k at test ≡ Some w
least_from_is zero at w test low high holds fails = absurd (omega arith)
least_from_is (suc k) at w test low high holds fails =
    elim (cases_eq at w) [
      | inl same ↦ rw same (rw holds refl)
      | inr other ↦
          let less : at < w = omega (arith, other) in
          let next : at + 1 ≤ w = omega arith in
          rw (fails at (omega arith) less) (least_from_is k (at + 1) w test next (omega arith) holds (λ v above below. fails v (omega arith) below))
    ]

pub number_width_is : (n w : ℕ) → n < 2 ^ 64 → IsLeastWidth n w → w ≡ number_width n
unfolding number_width
number_width_is n w small h =
    let few : w ≤ 64 = h.least 64 (lit≤ tt) small in
    let found = least_from_is 64 1 w (λ v. nat_lt n (2 ^ v)) h.positive (omega arith) (lt-ltb n (2 ^ w) h.holds) (λ v some less. le-ltb n (2 ^ v) (elim (cases_lt n (2 ^ v)) [ inl fits ↦ absurd (omega (arith, h.least v some fits)) | inr over ↦ over ])) in
    sym (ap (λ o. unwrap_or o 64) found)
