use Rattle.std.proofs.Common.{◌≡◌, ℕ, zero, suc, ◌+◌, ◌-◌, ◌<◌, ◌%◌, sym, ap, ◌∙◌, arith, inl, inr, ◌⊎◌}
use Rattle.std.proofs.lemmas.Bool.{cases_eq, cases_lt}
use Rattle.std.proofs.lemmas.Bool.Decides.{nat_tests}
use Rattle.std.proofs.Math.Nat.{mod-eq_of_lt, mod_self, mod-add-mod, add-mod_right}
use Rattle.std.proofs.lemmas.Nat.{mod_below}
use Rattle.pr_control.specs.Time.{ahead, before, back}

-- the count after t's remainder is that of t + 1
pub mod_ahead : (n t : ℕ) → 0 < n → (t + 1) % n ≡ ahead n (t % n)
unfolding ahead
mod_ahead n t h = sym (mod-add-mod t n 1)

-- the count goes on, or begins anew
pub ahead_cases : (n q : ℕ) → q < n → ((q + 1 < n) × (ahead n q ≡ q + 1)) ⊎ ((q + 1 ≡ n) × (ahead n q ≡ 0))
unfolding ahead
ahead_cases n q h = elim (cases_lt (q + 1) n) [
  | inl l ↦ inl (l, mod-eq_of_lt l)
  | inr g ↦ let e : q + 1 ≡ n = omega arith in inr (e, ap (λ x. x % n) e ∙ mod_self n)
]

-- where the count stood lies below q, or above it
pub back_cases : (n q d : ℕ) → q < n → d < n → ((d < q) × (back n q d + 1 + d ≡ q)) ⊎ ((q < d + 1) × (back n q d + 1 + d ≡ q + n))
unfolding back
back_cases n q d h k = elim (cases_lt d q) [
  | inl l ↦
      let e : q + (n - 1 - d) ≡ (q - 1 - d) + n = omega arith in
      let r : (q + (n - 1 - d)) % n ≡ q - 1 - d = ap (λ x. x % n) e ∙ (add-mod_right (q - 1 - d) n ∙ mod-eq_of_lt (let m : q - 1 - d < n = omega arith in m)) in
      inl (l, omega arith)
  | inr g ↦
      let r : (q + (n - 1 - d)) % n ≡ q + (n - 1 - d) = mod-eq_of_lt (let m : q + (n - 1 - d) < n = omega arith in m) in
      inr (omega arith, omega arith)
]

pub back_below : (n q d : ℕ) → q < n → d < n → back n q d < n
back_below n q d h k = let e = back_cases n q d h k in omega arith

pub back-back : (n q d : ℕ) → q < n → d < n → back n q (back n q d) ≡ d
back-back n q d h k =
    let e = back_cases n q d h k in
    let f = back_cases n q (back n q d) h (back_below n q d h k) in
    omega arith

pub back-before : (n q d : ℕ) → q < n → d + 1 < n → before n (back n q d) ≡ back n q (d + 1)
back-before n q d h k =
    let e = back_cases n q d h (omega arith) in
    let f = back_cases n q (d + 1) h k in
    grind (arith, nat_tests)

pub back-ahead : (n q d : ℕ) → q < n → d + 1 < n → back n (ahead n q) (d + 1) ≡ back n q d
back-ahead n q d h k =
    let a = ahead_cases n q h in
    let e = back_cases n q d h (omega arith) in
    let f = back_cases n (ahead n q) (d + 1) (omega arith) k in
    omega arith

pub back-first : (n q : ℕ) → q < n → back n (ahead n q) 0 ≡ q
back-first n q h =
    let a = ahead_cases n q h in
    let f = back_cases n (ahead n q) 0 (omega arith) (omega arith) in
    omega arith

pub back-last : (n q : ℕ) → q < n → back n q (n - 1) ≡ q
back-last n q h = let e = back_cases n q (n - 1) h (omega arith) in omega arith

-- how far a place is behind, one step on
pub behind-ahead : (n q i : ℕ) → q < n → i < n → back n (ahead n q) i ≡ ahead n (back n q i)
behind-ahead n q i h k =
    let a = ahead_cases n q h in
    let e = back_cases n q i h k in
    let f = back_cases n (ahead n q) i (omega arith) k in
    let g = ahead_cases n (back n q i) (omega arith) in
    omega arith

pub back_here : (n s : ℕ) → s < n → back n (ahead n s) s ≡ 0
back_here n s h =
    let a = ahead_cases n s h in
    let f = back_cases n (ahead n s) s (omega arith) h in
    omega arith

-- how long ago stage s was brought, as a remainder
pub age : (n s x : ℕ) → s < n → x % n ≡ back n ((s + 1 + x) % n) s
age n s zero h =
    let z : 0 % n ≡ 0 = mod-eq_of_lt (let k : 0 < n = omega arith in k) in
    let e : s + 1 + 0 ≡ s + 1 = omega arith in
    let m : (s + 1) % n ≡ ahead n (s % n) = mod_ahead n s (omega arith) in
    let r : s % n ≡ s = mod-eq_of_lt h in
    rw (e, m, r) (z ∙ sym (back_here n s h))
age n s (suc x) h =
    let a : suc x ≡ x + 1 = omega arith in
    let b : s + 1 + suc x ≡ (s + 1 + x) + 1 = omega arith in
    let l = mod_below (s + 1 + x) n (omega arith) in
    rw (b, a) (mod_ahead n x (omega arith) ∙ (ap (ahead n) (age n s x h) ∙ (sym (behind-ahead n ((s + 1 + x) % n) s l h) ∙ ap (λ m. back n m s) (sym (mod_ahead n (s + 1 + x) (omega arith))))))

-- every other place falls one further behind
pub back_other : (n q i : ℕ) → q < n → i < n → (i ≡ q → ⊥) → (back n (ahead n q) i ≡ back n q i + 1) × (back n q i + 1 < n)
back_other n q i h k ne =
    let a = ahead_cases n q h in
    let e = back_cases n q i h k in
    let f = back_cases n (ahead n q) i (omega arith) k in
    elim (cases_eq i q) [ inl same ↦ absurd (ne same) | inr apart ↦ (omega arith, omega arith) ]

pub before_below : (n i : ℕ) → i < n → before n i < n
before_below n i h = grind (arith, nat_tests)
