use Rattle.std.proofs.Common.{◌≡◌, ℕ, zero, suc, ◌+◌, ◌-◌, ◌*◌, ◌%◌, ◌<◌, ◌≤◌, Bool, true, false, cond, ◌&&◌, min, ltb, leb, refl, sym, ap, ap₂, ◌∙◌, subst, arith, inl, inr, add-zero, ◌/◌}
use Rattle.std.proofs.lemmas.Bool.{lt-ltb, lt-leb, le-leb, cases_lt, cond-true, cond-false}
use Rattle.std.proofs.lemmas.Bool.Decides.{nat_tests}
use Rattle.std.proofs.Math.Nat.{mod-eq_of_lt, add-mod_right, mul-zero, zero-mul, mul-suc, suc-mul, mod-add-div, mul_comm, div-mul-le_self, mul-le-mul_left}
use Rattle.std.proofs.lemmas.Nat.{mod_below, le-div}
use Rattle.pr_control.specs.Time.{turn, ahead}
use Rattle.pr_control.proofs.Round.{mod_ahead, ahead_cases}
use Rattle.pr_control.specs.Counts.{turns_in, cycles_of}
use Rattle.pr_control.specs.Drain.{drain}

-- ---- no more stages than stripes: each cycle but cycle 0 is a turn
pub turn_line : (v p x : ℕ) → v ≤ p → turn v p (x + 1) ≡ true
unfolding turn
turn_line v p x h = grind (arith, nat_tests)

-- ---- more stages than stripes: a turn is told by its remainder
abbrev in_turn : ℕ → ℕ → Bool
in_turn p m = ltb 0 m && ltb m p

pub turn_zero' : (v p : ℕ) → turn v p 0 ≡ false
unfolding turn
turn_zero' v p = refl

turn_suc : (v p x : ℕ) → p < v → turn v p (x + 1) ≡ ltb (x % v) (p - 1)
unfolding turn
turn_suc v p x h =
    let a : x + 1 - 1 ≡ x = omega arith in
    let b = lt-ltb 0 (x + 1) (omega arith) in
    let c = lt-leb v p h in
    rw (a, b, c) refl

ahead_turn : (v p m : ℕ) → p < v → 0 < p → m < v → ltb m (p - 1) ≡ in_turn p (ahead v m)
ahead_turn v p m h hp k = let a = ahead_cases v m k in grind (arith, nat_tests)

pub turn_ring : (v p x : ℕ) → p < v → 0 < p → turn v p x ≡ in_turn p (x % v)
turn_ring v p zero h hp =
    let z : 0 % v ≡ 0 = mod-eq_of_lt (let k : 0 < v = omega arith in k) in
    turn_zero' v p ∙ ap (in_turn p) (sym z)
turn_ring v p (suc x) h hp =
    let a : suc x ≡ x + 1 = omega arith in
    let l = mod_below x v (omega arith) in
    rw a (turn_suc v p x h ∙ (ahead_turn v p (x % v) h hp l ∙ ap (in_turn p) (sym (mod_ahead v x (omega arith)))))

-- ---- turns in a stretch of cycles
pub turns_zero : (v p t : ℕ) → turns_in v p t 0 ≡ 0
unfolding turns_in
turns_zero v p t = refl

pub turns_more : (v p t k : ℕ) → turns_in v p t (k + 1) ≡ turns_in v p t k + cond (turn v p (t + k)) 1 0
unfolding turns_in
turns_more v p t k = let a : k + 1 ≡ suc k = omega arith in rw a refl

pub turns_first : (v p t k : ℕ) → turns_in v p t (k + 1) ≡ cond (turn v p t) 1 0 + turns_in v p (t + 1) k
turns_first v p t zero =
    let a : t + 0 ≡ t = omega arith in
    let b : 0 + cond {A = ℕ} (turn v p t) 1 0 ≡ cond {A = ℕ} (turn v p t) 1 0 + 0 = omega arith in
    turns_more v p t 0 ∙ (ap₂ (λ n x. n + cond {A = ℕ} (turn v p x) 1 0) (turns_zero v p t) a ∙ (b ∙ ap (λ n. cond (turn v p t) 1 0 + n) (sym (turns_zero v p (t + 1)))))
turns_first v p t (suc k) =
    let a : suc k ≡ k + 1 = omega arith in
    let e = turns_first v p t k in
    let f = turns_more v p t (k + 1) in
    let g = turns_more v p (t + 1) k in
    let x : t + 1 + k ≡ t + (k + 1) = omega arith in
    let y = ap (λ n. cond {A = ℕ} (turn v p n) 1 0) x in
    rw a (omega arith)

pub turns-add : (v p t a b : ℕ) → turns_in v p t (a + b) ≡ turns_in v p t a + turns_in v p (t + a) b
turns-add v p t a zero = ap (turns_in v p t) (add-zero a) ∙ (let z = turns_zero v p (t + a) in omega arith)
turns-add v p t a (suc b) =
    let x : a + suc b ≡ (a + b) + 1 = omega arith in
    let s : suc b ≡ b + 1 = omega arith in
    let e = turns-add v p t a b in
    let f = turns_more v p t (a + b) in
    let g = turns_more v p (t + a) b in
    let y : t + (a + b) ≡ t + a + b = omega arith in
    let z = ap (λ n. cond {A = ℕ} (turn v p n) 1 0) y in
    let w = ap (turns_in v p t) x in
    let u = ap (turns_in v p (t + a)) s in
    omega arith

-- in the first v cycles
begin_step : (p k : ℕ) → 0 < p → min (k - 1) (p - 1) + cond {A = ℕ} (in_turn p k) 1 0 ≡ min (k + 1 - 1) (p - 1)
begin_step p k h = grind (arith, nat_tests)

turns_begin : (v p k : ℕ) → p < v → 0 < p → k ≤ v → turns_in v p 0 k ≡ min (k - 1) (p - 1)
turns_begin v p zero h hp l = turns_zero v p 0 ∙ (let z : 0 ≡ min (0 - 1) (p - 1) = omega arith in z)
turns_begin v p (suc k) h hp l =
    let a : suc k ≡ k + 1 = omega arith in
    let z : 0 + k ≡ k = omega arith in
    let m = mod-eq_of_lt (let b : k < v = omega arith in b) in
    let x : turn v p (0 + k) ≡ in_turn p k = ap (turn v p) z ∙ (turn_ring v p k h hp ∙ ap (in_turn p) m) in
    rw a (turns_more v p 0 k ∙ (ap₂ (λ n b. n + cond {A = ℕ} b 1 0) (turns_begin v p k h hp (omega arith)) x ∙ begin_step p k hp))

-- in any v cycles
pub turns_round : (v p t : ℕ) → p < v → 0 < p → turns_in v p t v ≡ p - 1
turns_round v p zero h hp = turns_begin v p v h hp (omega arith) ∙ (let z : min (v - 1) (p - 1) ≡ p - 1 = omega arith in z)
turns_round v p (suc t) h hp =
    let a : suc t ≡ t + 1 = omega arith in
    let e = turns_round v p t h hp in
    let f = turns_first v p t v in
    let g = turns_more v p t v in
    let x : turn v p (t + v) ≡ turn v p t = turn_ring v p (t + v) h hp ∙ (ap (in_turn p) (add-mod_right t v) ∙ sym (turn_ring v p t h hp)) in
    let y = ap (λ b. cond {A = ℕ} b 1 0) x in
    rw a (omega arith)

pub turns_rounds : (v p t c : ℕ) → p < v → 0 < p → turns_in v p t (v * c) ≡ c * (p - 1)
turns_rounds v p t zero h hp = ap (turns_in v p t) (mul-zero v) ∙ (turns_zero v p t ∙ sym (zero-mul (p - 1)))
turns_rounds v p t (suc c) h hp =
    ap (turns_in v p t) (mul-suc v c) ∙ (turns-add v p t (v * c) v ∙ (ap₂ (λ x y. x + y) (turns_rounds v p t c h hp) (turns_round v p (t + v * c) h hp) ∙ sym (suc-mul c (p - 1))))

-- ---- the first cycles of all
pub turns_from_start : (v p c r : ℕ) → p < v → 0 < p → r ≤ v → turns_in v p 0 (v * c + r) ≡ c * (p - 1) + min (r - 1) (p - 1)
turns_from_start v p c r h hp l =
    let a : v * c + r ≡ r + v * c = omega arith in
    let b : 0 + r ≡ r = omega arith in
    let s = turns-add v p 0 r (v * c) in
    let f = turns_begin v p r h hp l in
    let g = turns_rounds v p (0 + r) c h hp in
    ap (turns_in v p 0) a ∙ (omega arith)

pub turns_line : (v p t k : ℕ) → v ≤ p → turns_in v p (t + 1) k ≡ k
turns_line v p t zero h = turns_zero v p (t + 1)
turns_line v p t (suc k) h =
    let a : suc k ≡ k + 1 = omega arith in
    let e = turns_more v p (t + 1) k in
    let i = turns_line v p t k h in
    let x : t + 1 + k ≡ t + k + 1 = omega arith in
    let y : turn v p (t + 1 + k) ≡ true = ap (turn v p) x ∙ turn_line v p (t + k) h in
    let z = ap (λ b. cond {A = ℕ} b 1 0) y in
    rw a (omega arith)

pub turns_line_start : (v p k : ℕ) → v ≤ p → turns_in v p 0 (k + 1) ≡ k
turns_line_start v p k h =
    let f = turns_first v p 0 k in
    let z = ap (λ b. cond {A = ℕ} b 1 0) (turn_zero' v p) in
    let l = turns_line v p 0 k h in
    omega arith

pub turns_grow : (v p t a b : ℕ) → a ≤ b → turns_in v p t a ≤ turns_in v p t b
turns_grow v p t a b h =
    let d : a + (b - a) ≡ b = omega arith in
    let e = ap (turns_in v p t) d in
    let f = turns-add v p t a (b - a) in
    omega arith

-- ---- as many turns as samples, and no cycle more
-- with v - 1 cycles to go, n samples have had their turns, and one cycle before they had not
pub record IsEnough (v p n cycles : ℕ) : Type 0 where
  pub long : v ≤ cycles
  pub enough : turns_in v p 0 (cycles - (v - 1)) ≡ n
  pub before : turns_in v p 0 (cycles - v) + 1 ≡ n

enough_line : (v p m : ℕ) → 0 < v → v ≤ p → IsEnough v p (suc m) (suc m + v)
enough_line v p m hv h =
    let a : suc m + v - (v - 1) ≡ suc m + 1 = omega arith in
    let b : suc m + v - v ≡ m + 1 = omega arith in
    let x = turns_line_start v p (suc m) h in
    let y = turns_line_start v p m h in
    record { long = omega arith; enough = ap (turns_in v p 0) a ∙ x; before = (let z = ap (turns_in v p 0) b in omega arith) }

enough_ring : (v p m : ℕ) → p < v → 2 ≤ p → IsEnough v p (suc m) (v * (m / (p - 1) + 1) + m % (p - 1) + 1)
enough_ring v p m h hp =
    let c = m / (p - 1) in
    let r = m % (p - 1) in
    let l : r < p - 1 = mod_below m (p - 1) (omega arith) in
    let d = mod-add-div m (p - 1) in
    let w : (p - 1) * c ≡ c * (p - 1) = mul_comm (p - 1) c in
    let e : v * (c + 1) ≡ v * c + v = (let k : c + 1 ≡ suc c = omega arith in ap (λ x. v * x) k ∙ mul-suc v c) in
    let a : v * (c + 1) + r + 1 - (v - 1) ≡ v * c + (r + 2) = omega arith in
    let b : v * (c + 1) + r + 1 - v ≡ v * c + (r + 1) = omega arith in
    let x = turns_from_start v p c (r + 2) h (omega arith) (omega arith) in
    let y = turns_from_start v p c (r + 1) h (omega arith) (omega arith) in
    let f = ap (turns_in v p 0) a in
    let g = ap (turns_in v p 0) b in
    record { long = omega arith; enough = omega arith; before = omega arith }

pub cycles_enough : (v p n : ℕ) → 0 < v → 2 ≤ p → 0 < n → IsEnough v p n (cycles_of v p n)
cycles_enough v p zero hv hp hn = absurd (omega arith)
cycles_enough v p (suc m) hv hp hn = elim (cases_lt p v) [
  | inl h ↦ subst (IsEnough v p (suc m)) (sym (cond-false (leb v p) _ _ (lt-leb v p h))) (enough_ring v p m h hp)
  | inr h ↦ subst (IsEnough v p (suc m)) (sym (cond-true (leb v p) _ _ (le-leb v p h))) (enough_line v p m hv h)
]

-- ---- turns enough for a drain, from any cycle on
drain_line : (v p t n : ℕ) → v ≤ p → n ≤ turns_in v p t (n + 1)
drain_line v p t n h = let e = turns_first v p t n in let f = turns_line v p t n h in omega arith

drain_ring : (v p t n : ℕ) → p < v → 2 ≤ p → n ≤ turns_in v p t (v * ((n + (p - 2)) / (p - 1)) + 1)
drain_ring v p t n h hp =
    let c = (n + (p - 2)) / (p - 1) in
    let e = turns-add v p t (v * c) 1 in
    let f = turns_rounds v p t c h (omega arith) in
    let d = mod-add-div (n + (p - 2)) (p - 1) in
    let l = mod_below (n + (p - 2)) (p - 1) (omega arith) in
    let m : (p - 1) * c ≡ c * (p - 1) = mul_comm (p - 1) c in
    omega arith

-- the cycles of a drain before the last v - 1
pub drain_split : (v p t n : ℕ) → 0 < v → 2 ≤ p → (j : ℕ) × (drain v p n ≡ j + (v - 1)) × (n ≤ turns_in v p t j) × (0 < j)
drain_split v p t n hv hp = elim (cases_lt p v) [
  | inl h ↦ (
      let c = (n + (p - 2)) / (p - 1) in
      let a : c + 1 ≡ suc c = omega arith in
      let z : v * c + v ≡ v * c + 1 + (v - 1) = omega arith in
      (v * c + 1, cond-false (leb v p) _ _ (lt-leb v p h) ∙ (ap (λ x. v * x) a ∙ (mul-suc v c ∙ z)), drain_ring v p t n h hp, omega arith))
  | inr h ↦ (
      let z : n + v ≡ n + 1 + (v - 1) = omega arith in
      (n + 1, cond-true (leb v p) _ _ (le-leb v p h) ∙ z, drain_line v p t n h, omega arith))
]

-- more samples take no fewer turns
pub drain_grow : (v p m n : ℕ) → 2 ≤ p → m ≤ n → drain v p m ≤ drain v p n
drain_grow v p m n hp h = elim (cases_lt p v) [
  | inl k ↦ (
      let f = lt-leb v p k in
      let a = cond-false (leb v p) (m + v) (v * ((m + (p - 2)) / (p - 1) + 1)) f in
      let b = cond-false (leb v p) (n + v) (v * ((n + (p - 2)) / (p - 1) + 1)) f in
      let q : (m + (p - 2)) / (p - 1) ≤ (n + (p - 2)) / (p - 1) = (let d = div-mul-le_self (m + (p - 2)) (p - 1) in le-div ((m + (p - 2)) / (p - 1)) (n + (p - 2)) (p - 1) (omega arith) (omega arith)) in
      let z : v * ((m + (p - 2)) / (p - 1) + 1) ≤ v * ((n + (p - 2)) / (p - 1) + 1) = mul-le-mul_left v (let l : (m + (p - 2)) / (p - 1) + 1 ≤ (n + (p - 2)) / (p - 1) + 1 = omega arith in l) in
      omega arith)
  | inr k ↦ (
      let f = le-leb v p k in
      let a = cond-true (leb v p) (m + v) (v * ((m + (p - 2)) / (p - 1) + 1)) f in
      let b = cond-true (leb v p) (n + v) (v * ((n + (p - 2)) / (p - 1) + 1)) f in
      omega arith)
]
