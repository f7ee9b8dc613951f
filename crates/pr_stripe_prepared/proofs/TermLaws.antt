-- Terms that gather a row of places, block by block.
use Rattle.std.proofs.Common.{◌≡◌, ℕ, zero, suc, Bool, replicate, ◌+◌, ◌*◌, ◌/◌, ◌%◌, ◌<◌, ◌≤◌, ◌==◌, ◌++◌, true, false, List, [], ◌∷◌, get_or, nat_lt, nat_le, bit_or, if◌then◌else◌, refl, sym, ap, ◌∙◌, arith, inl, inr}
use Rattle.std.proofs.lemmas.Bool.{cases_lt}
use Rattle.std.proofs.lemmas.Bool.Decides.{nat_tests}
use Rattle.std.specs.Int.Bits.{or_zero_r}
use Rattle.pr_stripe_prepared.specs.declared.stages.Term.{Term}
use Rattle.pr_stripe_prepared.specs.Gather.{with_terms, looked}

pub with_more : (k : ℕ) (row : List ℕ) (x : ℕ) (ts : List Term) (t : Term) → with_terms k row x (ts ++ t ∷ []) ≡ bit_or (with_terms k row x ts) (looked (get_or t.picks k 0) t.from row)
with_more k row x [] t = refl
with_more k row x (u ∷ ts) t = with_more k row (bit_or x (looked (get_or u.picks k 0) u.from row)) ts t

-- what a lane has whose place is p, after b blocks
abbrev pub so_far : ℕ → ℕ → ℕ → ℕ → ℕ
so_far p b x r = if nat_lt p (b * 16) then bit_or x r else x

pub before : (p b x r : ℕ) → p < b * 16 → so_far p b x r ≡ bit_or x r
before p b x r h = let e : nat_lt p (b * 16) ≡ true = grind (arith, nat_tests) in ap (λ t. if t then bit_or x r else x) e

pub after : (p b x r : ℕ) → b * 16 ≤ p → so_far p b x r ≡ x
after p b x r h = let e : nat_lt p (b * 16) ≡ false = grind (arith, nat_tests) in ap (λ t. if t then bit_or x r else x) e

pick_here : (p b : ℕ) → b * 16 ≤ p → p < (b + 1) * 16 → (if p / 16 == b then p % 16 else 128) ≡ p % 16
pick_here p b l h = let q : p / 16 ≡ b = omega arith in let e : (p / 16 == b) ≡ true = grind (arith, nat_tests) in ap (λ t. if t then p % 16 else 128) e

pick_other : (p b : ℕ) → (p / 16 ≡ b → ⊥) → (if p / 16 == b then p % 16 else 128) ≡ 128
pick_other p b ne = let e : (p / 16 == b) ≡ false = grind (arith, nat_tests) in ap (λ t. if t then p % 16 else 128) e

pub looked_low : (place from : ℕ) (row : List ℕ) → place < 16 → looked place from row ≡ get_or row (from + place) 0
looked_low place from row h = let e : nat_le 128 place ≡ false = grind (arith, nat_tests) in ap (λ t. if t then 0 else get_or row (from + place) 0) e

zeros_at : (n p : ℕ) → get_or {A = ℕ} (replicate n 0) p 0 ≡ 0
zeros_at zero p = refl
zeros_at (suc n) zero = refl
zeros_at (suc n) (suc p) = zeros_at n p

either_zero : (b : Bool) (x : ℕ) → x ≡ 0 → (if b then 0 else x) ≡ 0
either_zero true x e = refl
either_zero false x e = e

-- nothing is found in zeros
pub looked_zeros : (place n : ℕ) → looked place 0 (replicate n 0) ≡ 0
looked_zeros place n = either_zero (nat_le 128 place) _ (zeros_at n (0 + place))

pub looked_none : (place from : ℕ) (row : List ℕ) → 128 ≤ place → looked place from row ≡ 0
looked_none place from row h = let e : nat_le 128 place ≡ true = grind (arith, nat_tests) in ap (λ t. if t then 0 else get_or row (from + place) 0) e

pub block_more : (p b x pick : ℕ) (row : List ℕ) → pick ≡ (if p / 16 == b then p % 16 else 128)
    → bit_or (so_far p b x (get_or row p 0)) (looked pick (b * 16) row) ≡ so_far p (b + 1) x (get_or row p 0)
block_more p b x pick row e =
    let r = get_or row p 0 in
    elim (cases_lt p (b * 16)) as (λ _. bit_or (so_far p b x r) (looked pick (b * 16) row) ≡ so_far p (b + 1) x r) [
      | inl low ↦
          let none : pick ≡ 128 = e ∙ pick_other p b (λ q. omega arith) in
          ap (λ z. bit_or (so_far p b x r) (looked z (b * 16) row)) none ∙ or_zero_r (so_far p b x r) ∙ before p b x r low ∙ sym (before p (b + 1) x r (omega arith))
      | inr from ↦ elim (cases_lt p ((b + 1) * 16)) as (λ _. bit_or (so_far p b x r) (looked pick (b * 16) row) ≡ so_far p (b + 1) x r) [
        | inl here ↦
            let at : pick ≡ p % 16 = e ∙ pick_here p b from here in
            let place : b * 16 + p % 16 ≡ p = omega arith in
            ap (λ y. bit_or y (looked pick (b * 16) row)) (after p b x r from)
            ∙ ap (λ z. bit_or x (looked z (b * 16) row)) at
            ∙ ap (bit_or x) (looked_low (p % 16) (b * 16) row (omega arith) ∙ ap (λ j. get_or row j 0) place)
            ∙ sym (before p (b + 1) x r here)
        | inr past ↦
            let none : pick ≡ 128 = e ∙ pick_other p b (λ q. omega arith) in
            ap (λ z. bit_or (so_far p b x r) (looked z (b * 16) row)) none ∙ or_zero_r (so_far p b x r) ∙ after p b x r from ∙ sym (after p (b + 1) x r past)
      ]
    ]

-- a block without a lane's place
pub block_without : (p b x pick : ℕ) (row : List ℕ) → pick ≡ (if p / 16 == b then p % 16 else 128) → 128 ≤ pick → so_far p b x (get_or row p 0) ≡ so_far p (b + 1) x (get_or row p 0)
block_without p b x pick row e none =
    sym (or_zero_r (so_far p b x (get_or row p 0))) ∙ ap (bit_or (so_far p b x (get_or row p 0))) (sym (looked_none pick (b * 16) row none)) ∙ block_more p b x pick row e
