use Rattle.std.proofs.Common.{◌≡◌, ℕ, zero, suc, ◌+◌, ◌<◌, ◌≤◌, ◌%◌, cond, ltb, refl, sym, ap, ◌∙◌, subst, arith, inl, inr, ◌⊎◌, Option, Some, None}
use Rattle.std.proofs.lemmas.Bool.{cases_lt, cases_eq, lt-ltb, eq-eqb, ne_eqb}
use Rattle.std.proofs.lemmas.Bool.Decides.{nat_tests}
use Rattle.std.proofs.Math.Nat.{mod-eq_of_lt}
use Rattle.std.proofs.lemmas.Nat.{mod_below}
use Rattle.pr_control.specs.Time.{ahead, back, event, held, occupant, turned}
use Rattle.pr_control.proofs.Round.{mod_ahead, back-ahead, back-first, back_here, back_other}

-- ---- more stages than stripes

-- the event
pub event_ring : (v p t : ℕ) → p < v → event v p t ≡ Some (t % v, t % p)
event_ring v p t h = ap (λ b. cond b (Some (t % v, t % p)) (cond (ltb t v) (Some (t, t)) None)) (lt-ltb p v h)

-- what a stripe holds after the event falls on it, and after it falls on another
pub held_here : (m q i : ℕ) (r : Option ℕ) → i ≡ q → held (Some (m, q)) i r ≡ Some m
held_here m q i r e = ap (λ b. cond b (Some m) r) (eq-eqb i q e)

pub held_other : (m q i : ℕ) (r : Option ℕ) → (i ≡ q → ⊥) → held (Some (m, q)) i r ≡ r
held_other m q i r ne = ap (λ b. cond b (Some m) r) (ne_eqb i q ne)

pub occupant_zero : (v p i : ℕ) → occupant v p i 0 ≡ None
unfolding occupant
occupant_zero v p i = refl

pub occupant_hit : (v p i t m q : ℕ) → event v p t ≡ Some (m, q) → i ≡ q → occupant v p i (t + 1) ≡ Some m
unfolding occupant
occupant_hit v p i t m q e s = let a : t + 1 ≡ suc t = omega arith in rw (a, e) (held_here m q i _ s)

pub occupant_other : (v p i t m q : ℕ) → event v p t ≡ Some (m, q) → (i ≡ q → ⊥) → occupant v p i (t + 1) ≡ occupant v p i t
unfolding occupant
occupant_other v p i t m q e s = let a : t + 1 ≡ suc t = omega arith in rw (a, e) (held_other m q i _ s)

pub occupant_still : (v p i t : ℕ) → event v p t ≡ None → occupant v p i (t + 1) ≡ occupant v p i t
unfolding occupant
occupant_still v p i t e = let a : t + 1 ≡ suc t = omega arith in rw (a, e) refl

live_hit : (v p i t : ℕ) → p < v → i < p → i ≡ t % p → occupant v p i (t + 1) ≡ Some (back v (ahead v (t % v)) (back p (ahead p (t % p)) i))
live_hit v p i t h k e =
    let bm : t % v < v = mod_below t v (omega arith) in
    let z : back p (ahead p (t % p)) i ≡ 0 = ap (λ x. back p (ahead p x) i) (sym e) ∙ back_here p i k in
    occupant_hit v p i t (t % v) (t % p) (event_ring v p t h) e ∙ ap Some (sym (ap (back v (ahead v (t % v))) z ∙ back-first v (t % v) bm))

live_other : (v p i t : ℕ) → p < v → i < p → (i ≡ t % p → ⊥) → (back p (t % p) i < t → occupant v p i t ≡ Some (back v (t % v) (back p (t % p) i))) → back p (ahead p (t % p)) i < t + 1 → occupant v p i (t + 1) ≡ Some (back v (ahead v (t % v)) (back p (ahead p (t % p)) i))
live_other v p i t h k ne ih l =
    let bq : t % p < p = mod_below t p (omega arith) in
    let bm : t % v < v = mod_below t v (omega arith) in
    let o = back_other p (t % p) i bq k ne in
    let now : back p (t % p) i < t = omega (arith, o.0) in
    let s : back v (ahead v (t % v)) (back p (t % p) i + 1) ≡ back v (t % v) (back p (t % p) i) = back-ahead v (t % v) (back p (t % p) i) bm (omega (arith, o.1)) in
    occupant_other v p i t (t % v) (t % p) (event_ring v p t h) ne ∙ (ih now ∙ ap Some (sym (ap (back v (ahead v (t % v))) o.0 ∙ s)))

blank_other : (v p i t : ℕ) → p < v → i < p → (i ≡ t % p → ⊥) → (t ≤ back p (t % p) i → occupant v p i t ≡ None) → t + 1 ≤ back p (ahead p (t % p)) i → occupant v p i (t + 1) ≡ None
blank_other v p i t h k ne ih l =
    let bq : t % p < p = mod_below t p (omega arith) in
    let o = back_other p (t % p) i bq k ne in
    occupant_other v p i t (t % v) (t % p) (event_ring v p t h) ne ∙ ih (omega (arith, o.0))

-- what stands at t + 1 stands at suc t
at_suc : (P : ℕ → ℕ → ℕ → Type 0) (v p t : ℕ) → 0 < v → 0 < p → P (t + 1) (ahead v (t % v)) (ahead p (t % p)) → P (suc t) (suc t % v) (suc t % p)
at_suc P v p t hv hp x =
    let a : t + 1 ≡ suc t = omega arith in
    let x1 = subst (λ m. P (t + 1) m (ahead p (t % p))) (sym (mod_ahead v t hv)) x in
    let x2 = subst (λ q. P (t + 1) ((t + 1) % v) q) (sym (mod_ahead p t hp)) x1 in
    subst (λ n. P n (n % v) (n % p)) a x2

-- the stage in each stripe: the stripe's event was `back p (t % p) i` cycles before the last one
pub ring_live : (v p i t : ℕ) → p < v → i < p → back p (t % p) i < t → occupant v p i t ≡ Some (back v (t % v) (back p (t % p) i))
ring_live v p i zero h k = λ l. absurd (omega arith)
ring_live v p i (suc t) h k =
    at_suc (λ n m q. back p q i < n → occupant v p i n ≡ Some (back v m (back p q i))) v p t (omega arith) (omega arith)
    (elim (cases_eq i (t % p)) [
      | inl e ↦ (λ l. live_hit v p i t h k e)
      | inr ne ↦ live_other v p i t h k ne (ring_live v p i t h k)
    ])

pub ring_blank : (v p i t : ℕ) → p < v → i < p → t ≤ back p (t % p) i → occupant v p i t ≡ None
ring_blank v p i zero h k = λ l. occupant_zero v p i
ring_blank v p i (suc t) h k =
    at_suc (λ n m q. n ≤ back p q i → occupant v p i n ≡ None) v p t (omega arith) (omega arith)
    (elim (cases_eq i (t % p)) [
      | inl e ↦ (λ l. absurd (let z : back p (ahead p (t % p)) i ≡ 0 = ap (λ x. back p (ahead p x) i) (sym e) ∙ back_here p i k in omega arith))
      | inr ne ↦ blank_other v p i t h k ne (ring_blank v p i t h k)
    ])

-- ---- no more stages than stripes
pub event_line : (v p t : ℕ) → v ≤ p → t < v → event v p t ≡ Some (t, t)
event_line v p t h k = grind (arith, nat_tests)

pub event_over : (v p t : ℕ) → v ≤ p → v ≤ t → event v p t ≡ None
event_over v p t h k = grind (arith, nat_tests)

pub line_live : (v p i t : ℕ) → v ≤ p → i < t → i < v → occupant v p i t ≡ Some i
line_live v p i zero h k l = absurd (omega arith)
line_live v p i (suc t) h k l =
    let a : suc t ≡ t + 1 = omega arith in
    rw a (elim (cases_lt t v) [
      | inl b ↦ elim (cases_eq i t) [
        | inl e ↦ occupant_hit v p i t t t (event_line v p t h b) e ∙ ap Some (sym e)
        | inr ne ↦ occupant_other v p i t t t (event_line v p t h b) ne ∙ line_live v p i t h (omega arith) l
      ]
      | inr b ↦ occupant_still v p i t (event_over v p t h b) ∙ line_live v p i t h (omega arith) l
    ])

pub line_blank : (v p i t : ℕ) → v ≤ p → (t ≤ i) ⊎ (v ≤ i) → occupant v p i t ≡ None
line_blank v p i zero h k = occupant_zero v p i
line_blank v p i (suc t) h k =
    let a : suc t ≡ t + 1 = omega arith in
    let before : (t ≤ i) ⊎ (v ≤ i) = elim k [ inl x ↦ inl (omega arith) | inr y ↦ inr y ] in
    let ih = line_blank v p i t h before in
    rw a (elim (cases_lt t v) [
      | inl b ↦ occupant_other v p i t t t (event_line v p t h b) (λ e. elim k [ inl x ↦ omega arith | inr y ↦ omega arith ]) ∙ ih
      | inr b ↦ occupant_still v p i t (event_over v p t h b) ∙ ih
    ])

-- ---- what the plan answers, from its counters
pub peek_ring : (v p t m q : ℕ) → p < v → m ≡ t % v → q ≡ t % p → Some (q, m) ≡ turned (event v p t)
peek_ring v p t m q h e f = rw (e, f) (sym (ap turned (event_ring v p t h)))

pub peek_line : (v p t m q : ℕ) → v ≤ p → t < v → m ≡ t % v → q ≡ t % p → Some (q, m) ≡ turned (event v p t)
peek_line v p t m q h k e f =
    let a : t % v ≡ t = mod-eq_of_lt k in
    let b : t % p ≡ t = mod-eq_of_lt (let l : t < p = omega arith in l) in
    ap (λ x. Some (x, m)) (f ∙ b) ∙ (ap (λ x. Some (t, x)) (e ∙ a) ∙ sym (ap turned (event_line v p t h k)))

pub peek_over : (v p t : ℕ) → v ≤ p → v ≤ t → None ≡ turned (event v p t)
peek_over v p t h k = sym (ap turned (event_over v p t h k))
