-- What is said of residents by events alone is what the working forms say: `occupant` and `turn`.
use Rattle.std.proofs.Common.{◌≡◌, ℕ, zero, suc, ◌+◌, ◌-◌, ◌<◌, ◌≤◌, ◌%◌, sym, ap, ◌∙◌, subst, refl, arith, inl, inr, true, Option, Some, None}
use Rattle.std.proofs.lemmas.Bool.{cases_lt, cases_eq}
use Rattle.std.proofs.lemmas.Nat.{mod_below}
use Rattle.std.proofs.Math.Nat.{add-mod_right}
use Rattle.pr_control.specs.Time.{back, before, event, occupant, spares, turn}
use Rattle.pr_control.specs.Residents.{IsLast, Resides, Computes, Active}
use Rattle.pr_control.proofs.TimeLaws.{event_ring, event_line, event_over, occupant_zero, occupant_hit, occupant_other, occupant_still, line_live}
use Rattle.pr_control.proofs.Round.{mod_ahead, back_here, back_other}
use Rattle.pr_control.proofs.Residence.{back_self, spares_ring, spares_line, ne_ring, some_same_pair, in_range, feeder, alone, active, turns}

pub same_event : (o : Option (ℕ × ℕ)) (m q n i : ℕ) → o ≡ Some (m, q) → o ≡ Some (n, i) → (m ≡ n) × (q ≡ i)
same_event o m q n i e f = let w = some_same_pair (m, q) (n, i) (sym e ∙ f) in (ap (λ (z : ℕ × ℕ). z.0) w, ap (λ (z : ℕ × ℕ). z.1) w)

-- ---- the last event and the occupant
later : (v p t i s u : ℕ) → IsLast v p t i s u → ((m : ℕ) → event v p t ≡ Some (m, i) → ⊥) → IsLast v p (t + 1) i s u
later v p t i s u h elsewhere = record {
  earlier = omega arith;
  brought = h.brought;
  last = λ w m a b e. elim (cases_lt w t) [ inl l ↦ h.last w m a l e | inr g ↦ elsewhere m (subst (λ x. event v p x ≡ Some (m, i)) (let z : w ≡ t = omega arith in z) e) ];
}

-- one more event: it brings the stage, or falls elsewhere, or is none
resides_step : (v p i t s : ℕ) (o : Option (ℕ × ℕ)) → event v p t ≡ o → (occupant v p i t ≡ Some s → Resides v p t s i) → occupant v p i (t + 1) ≡ Some s → Resides v p (t + 1) s i
resides_step v p i t s None e ih h =
    let w = ih (sym (occupant_still v p i t e) ∙ h) in
    (w.0, later v p t i s w.0 w.1 (λ m f. let z = sym e ∙ f in cc))
resides_step v p i t s (Some (m, q)) e ih h = elim (cases_eq i q) [
  | inl same ↦ (
      let z : m ≡ s = (let y = sym (occupant_hit v p i t m q e same) ∙ h in cc) in
      let b : event v p t ≡ Some (s, i) = e ∙ (let x = sym same in cc) in
      (t, record { earlier = omega arith; brought = b; last = λ w n a c f. omega arith }))
  | inr other ↦ (
      let w = ih (sym (occupant_other v p i t m q e other) ∙ h) in
      (w.0, later v p t i s w.0 w.1 (λ n f. other (sym (same_event (event v p t) m q n i e f).1))))
]

pub occupant_resides : (v p i t s : ℕ) → occupant v p i t ≡ Some s → Resides v p t s i
occupant_resides v p i zero s h = absurd (let z = sym (occupant_zero v p i) ∙ h in cc)
occupant_resides v p i (suc t) s h =
    let a : suc t ≡ t + 1 = omega arith in
    subst (λ n. Resides v p n s i) (sym a) (resides_step v p i t s (event v p t) refl (occupant_resides v p i t s) (rw a at h))

narrower : (v p t i s u : ℕ) → IsLast v p (t + 1) i s u → u < t → IsLast v p t i s u
narrower v p t i s u h below = record { earlier = below; brought = h.brought; last = λ w m a b e. h.last w m a (omega arith) e }

-- an event that does not fall on the stripe leaves its occupant
occupant_kept : (v p t i : ℕ) (o : Option (ℕ × ℕ)) → event v p t ≡ o → ((m : ℕ) → event v p t ≡ Some (m, i) → ⊥) → occupant v p i (t + 1) ≡ occupant v p i t
occupant_kept v p t i None e elsewhere = occupant_still v p i t e
occupant_kept v p t i (Some (m, q)) e elsewhere = occupant_other v p i t m q e (λ same. elsewhere m (e ∙ (let x = sym same in cc)))

occupant_from : (v p t i s u : ℕ) → IsLast v p t i s u → occupant v p i t ≡ Some s
occupant_from v p zero i s u h = absurd (let l = h.earlier in omega arith)
occupant_from v p (suc t) i s u h =
    let a : suc t ≡ t + 1 = omega arith in
    let g = subst (λ n. IsLast v p n i s u) a h in
    rw a (elim (cases_eq u t) [
      | inl same ↦ occupant_hit v p i t s i (subst (λ n. event v p n ≡ Some (s, i)) same g.brought) refl
      | inr other ↦ (
          let below : u < t = (let l = g.earlier in omega arith) in
          occupant_kept v p t i (event v p t) refl (λ m e. g.last t m below (omega arith) e) ∙ occupant_from v p t i s u (narrower v p t i s u g below))
    ])

pub resides_occupant : (v p i t s : ℕ) → Resides v p t s i → occupant v p i t ≡ Some s
resides_occupant v p i t s h = occupant_from v p t i s h.0 h.1

-- an event brings a stage that there is into a stripe that there is
pub event_inside : (v p t m q : ℕ) → 0 < p → event v p t ≡ Some (m, q) → (m < v) × (q < p)
event_inside v p t m q hp e = elim (cases_lt p v) [
  | inl h ↦ (
      let z = same_event (event v p t) m q (t % v) (t % p) e (event_ring v p t h) in
      let a = mod_below t v (omega arith) in
      let b = mod_below t p hp in
      (omega (arith, z.0), omega (arith, z.1)))
  | inr h ↦ elim (cases_lt t v) [
    | inl l ↦ (
        let z = same_event (event v p t) m q t t e (event_line v p t h l) in
        (omega (arith, z.0), omega (arith, z.1)))
    | inr g ↦ absurd (let z = sym e ∙ event_over v p t h g in cc)
  ]
]

pub resides_inside : (v p t s i : ℕ) → 0 < p → Resides v p t s i → (s < v) × (i < p)
resides_inside v p t s i hp h = event_inside v p h.0 s i hp h.1.brought

-- ---- computing
pub turn_computes : (v p t s : ℕ) → 0 < p → s < v → turn v p (t - s) ≡ true → Active v p t s
turn_computes v p t s hp hs h =
    let w = active v p t s hp hs h in
    (w.0, record { resides = occupant_resides v p w.0 t s w.2; spared = w.3 })

pub computes_turn : (v p t s i : ℕ) → 0 < p → Computes v p t s i → turn v p (t - s) ≡ true
computes_turn v p t s i hp h =
    let w = resides_inside v p t s i hp h.resides in
    turns v p i t s (omega (arith, w.0)) w.1 (resides_occupant v p i t s h.resides) h.spared

-- stage 0 is no cycle behind itself
at_stage_zero : (v p t : ℕ) → turn v p (t - 0) ≡ turn v p t
at_stage_zero v p t = let e : t - 0 ≡ t = omega arith in ap (turn v p) e

pub turn_active : (v p t : ℕ) → 0 < p → 0 < v → turn v p t ≡ true → Active v p t 0
turn_active v p t hp hv h = turn_computes v p t 0 hp hv (at_stage_zero v p t ∙ h)

pub active_turn : (v p t : ℕ) → 0 < p → Active v p t 0 → turn v p t ≡ true
active_turn v p t hp h = sym (at_stage_zero v p t) ∙ computes_turn v p t 0 h.0 hp h.1

-- ---- no two stages in one stripe, no stage in two stripes
pub one_stage : (v p t s r i : ℕ) → Resides v p t s i → Resides v p t r i → s ≡ r
one_stage v p t s r i h k = let z = sym (resides_occupant v p i t s h) ∙ resides_occupant v p i t r k in cc

pub one_stripe : (v p t s i j : ℕ) → 0 < p → Resides v p t s i → Resides v p t s j → i ≡ j
one_stripe v p t s i j hp h k =
    alone v p i j t s (resides_inside v p t s i hp h).1 (resides_inside v p t s j hp k).1 (resides_occupant v p i t s h) (resides_occupant v p j t s k)

-- ---- where stage s + 1 computes, stage s is in the stripe before, and computed there one cycle before
-- a stage that computes is in its stripe one cycle later too
still_there : (v p t s i : ℕ) → Computes v p t s i → Resides v p (t + 1) s i
still_there v p t s i h = (h.resides.0, later v p t i s h.resides.0 h.resides.1 (λ m e. subst (λ o. spares o i) e h.spared refl))

pub feeds : (v p t s i : ℕ) → 0 < p → Computes v p t (suc s) i → Computes v p (t - 1) s (before p i) × Resides v p t s (before p i)
feeds v p t s i hp h =
    let w = resides_inside v p t (suc s) i hp h.resides in
    let o = resides_occupant v p i t (suc s) h.resides in
    let r = in_range v p i t (suc s) (omega (arith, w.0)) w.1 o in
    let there : Resides v p t s (before p i) = occupant_resides v p (before p i) t s (feeder v p i t s (omega (arith, w.0)) w.1 h.spared o) in
    let k : turn v p (t - 1 - s) ≡ true = (let e : t - 1 - s ≡ t - suc s = omega arith in ap (turn v p) e ∙ computes_turn v p t (suc s) i hp h) in
    let c = turn_computes v p (t - 1) s hp (omega (arith, w.0)) k in
    let a : t - 1 + 1 ≡ t = omega (arith, r.1) in
    let after : Resides v p t s c.0 = subst (λ n. Resides v p n s c.0) a (still_there v p (t - 1) s c.0 c.1) in
    (subst (Computes v p (t - 1) s) (one_stripe v p t s c.0 (before p i) hp after there) c.1, there)

-- ---- how long a residence lasts, with more stages than stripes
-- d + 1 steps on, a place that goes round below n is d + 1 steps further
gone_round : (n t d : ℕ) → 0 < n → d < n → back n ((t + d + 1) % n) (t % n) ≡ d
gone_round n t zero h k =
    let l = mod_below t n h in
    let a : t + 0 + 1 ≡ t + 1 = omega arith in
    ap (λ x. back n (x % n) (t % n)) a ∙ (ap (λ q. back n q (t % n)) (mod_ahead n t h) ∙ back_here n (t % n) l)
gone_round n t (suc d) h k =
    let l = mod_below t n h in
    let m = mod_below (t + d + 1) n h in
    let ih = gone_round n t d h (omega arith) in
    let apart : t % n ≡ (t + d + 1) % n → ⊥ = (λ e. let z = ap (back n ((t + d + 1) % n)) e ∙ back_self n ((t + d + 1) % n) m in omega arith) in
    let o = back_other n ((t + d + 1) % n) (t % n) m l apart in
    let a : t + suc d + 1 ≡ t + d + 1 + 1 = omega arith in
    let b : back n ((t + d + 1) % n) (t % n) + 1 ≡ suc d = omega arith in
    ap (λ x. back n (x % n) (t % n)) a ∙ (ap (λ q. back n q (t % n)) (mod_ahead n (t + d + 1) h) ∙ (o.0 ∙ b))

-- so it stands where it stood only after a whole round
pub round_over : (n t w : ℕ) → t < w → w < t + n → w % n ≡ t % n → ⊥
round_over n t w h k e =
    let d = w - t - 1 in
    let a : t + d + 1 ≡ w = omega arith in
    let far = gone_round n t d (omega arith) (omega arith) in
    let l = mod_below t n (omega arith) in
    let z : back n (t % n) (t % n) ≡ d = ap (λ q. back n q (t % n)) (sym e ∙ ap (λ x. x % n) (sym a)) ∙ far in
    let s = back_self n (t % n) l in
    omega arith

-- the stage is in the stripe until the next event falls on it, p cycles later
pub resides_while : (v p t s i u : ℕ) → p < v → 0 < p → event v p t ≡ Some (s, i) → t < u → u ≤ t + p → Resides v p u s i
resides_while v p t s i u h hp e a b =
    let z = same_event (event v p t) s i (t % v) (t % p) e (event_ring v p t h) in (
      t,
      record {
        earlier = a;
        brought = e;
        last = λ w m c d f. (
            let y = same_event (event v p w) m i (w % v) (w % p) f (event_ring v p w h) in
            round_over p t w c (omega arith) (sym y.1 ∙ z.1));
      },
    )

pub computes_while : (v p t s i u : ℕ) → p < v → 0 < p → event v p t ≡ Some (s, i) → t < u → u < t + p → Computes v p u s i
computes_while v p t s i u h hp e a b =
    let z = same_event (event v p t) s i (t % v) (t % p) e (event_ring v p t h) in
    record {
      resides = resides_while v p t s i u h hp e a (omega arith);
      spared = spares_ring v p u i h (λ f. round_over p t u a b (sym f ∙ z.1));
    }

-- and then it does not compute
pub computes_no_more : (v p t s i j : ℕ) → p < v → 0 < p → event v p t ≡ Some (s, i) → Computes v p (t + p) s j → ⊥
computes_no_more v p t s i j h hp e c =
    let z = same_event (event v p t) s i (t % v) (t % p) e (event_ring v p t h) in
    let j_is : j ≡ i = one_stripe v p (t + p) s j i hp c.resides (resides_while v p t s i (t + p) h hp e (omega arith) (omega arith)) in
    ne_ring v p (t + p) j h c.spared (j_is ∙ (z.1 ∙ sym (add-mod_right t p)))

-- ---- no more stages than stripes: a stage stays
pub computes_ever : (v p t s i u : ℕ) → v ≤ p → 0 < p → event v p t ≡ Some (s, i) → t < u → Computes v p u s i
computes_ever v p t s i u h hp e a = elim (cases_lt t v) [
  | inl l ↦ (
      let z = same_event (event v p t) s i t t e (event_line v p t h l) in
      let o : occupant v p i u ≡ Some s = line_live v p i u h (omega (arith, z.1)) (omega (arith, z.1)) ∙ (let y : i ≡ s = z.1 ∙ sym z.0 in ap Some y) in
      record { resides = occupant_resides v p i u s o; spared = spares_line v p u i h (omega (arith, z.1)) })
  | inr g ↦ absurd (let z = sym e ∙ event_over v p t h g in cc)
]
