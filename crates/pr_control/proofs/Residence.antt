use Rattle.std.proofs.Common.{◌≡◌, ℕ, zero, suc, ◌+◌, ◌-◌, ◌<◌, ◌≤◌, ◌%◌, ltb, leb, sym, ap, ◌∙◌, subst, arith, inl, inr, ◌⊎◌, true, false, Some, None, ◌||◌}
use Rattle.std.proofs.lemmas.Bool.{cases_lt, cases_eq, lt-ltb, le-ltb, ltb-true, leb-true, and_parts, or_cases, and_from, or_left, or_right, le-leb, false_from_ne_true}
use Rattle.std.proofs.lemmas.Bool.Decides.{nat_tests}
use Rattle.std.proofs.Math.Nat.{mod-eq_of_lt, mod-le}
use Rattle.std.proofs.lemmas.Nat.{mod_below}
use Rattle.pr_control.specs.Time.{before, back, event, occupant, spares, turn, IsActive, IsResident}
use Rattle.pr_control.proofs.Round.{back_cases, back_below, back-back, back-before, back-last, back_other, age}
use Rattle.pr_control.proofs.TimeLaws.{event_ring, occupant_zero, occupant_hit, occupant_other, ring_live, ring_blank, event_line, event_over, line_live, line_blank}

pub back_self : (n q : ℕ) → q < n → back n q q ≡ n - 1
back_self n q h = let e = back_cases n q q h h in omega arith

-- two that are equally far behind are one
pub back_alone : (n q c d : ℕ) → q < n → c < n → d < n → back n q c ≡ back n q d → c ≡ d
back_alone n q c d h k l e = sym (back-back n q c h k) ∙ (ap (back n q) e ∙ back-back n q d h l)

pub before_suc : (n s : ℕ) → before n (suc s) ≡ s
before_suc n s = grind (arith, nat_tests)

pub some_same : (a b : ℕ) → Some a ≡ Some b → a ≡ b
some_same a b e = cc

pub some_same_pair : (a b : ℕ × ℕ) → Some a ≡ Some b → a ≡ b
some_same_pair a b e = cc

-- ---- what a stripe's occupant tells
pub ring_of : (v p i t s : ℕ) → p < v → i < p → occupant v p i t ≡ Some s → (back p (t % p) i < t) × (s ≡ back v (t % v) (back p (t % p) i))
ring_of v p i t s h k e = elim (cases_lt (back p (t % p) i) t) [
  | inl l ↦ (l, some_same _ _ (sym e ∙ ring_live v p i t h k l))
  | inr g ↦ absurd (let n = sym e ∙ ring_blank v p i t h k g in cc)
]

pub line_of : (v p i t s : ℕ) → v ≤ p → occupant v p i t ≡ Some s → (s ≡ i) × (i < t) × (i < v)
line_of v p i t s h e = elim (cases_lt i t) [
  | inl l ↦ elim (cases_lt i v) [
    | inl m ↦ (some_same _ _ (sym e ∙ line_live v p i t h l m), l, m)
    | inr m ↦ absurd (let n = sym e ∙ line_blank v p i t h (inr m) in cc)
  ]
  | inr g ↦ absurd (let n = sym e ∙ line_blank v p i t h (inl g) in cc)
]

-- ---- where a stage computes
pub turn_at : (v p x : ℕ) → turn v p x ≡ true → (0 < x) × ((v ≤ p) ⊎ ((x - 1) % v < p - 1))
unfolding turn
turn_at v p x h =
    let w = and_parts (ltb 0 x) (leb v p || ltb ((x - 1) % v) (p - 1)) h in
    (ltb-true 0 x w.0, elim (or_cases (leb v p) (ltb ((x - 1) % v) (p - 1)) w.1) [ inl l ↦ inl (leb-true v p l) | inr r ↦ inr (ltb-true ((x - 1) % v) (p - 1) r) ])

pub turn_from : (v p x : ℕ) → 0 < x → (v ≤ p) ⊎ ((x - 1) % v < p - 1) → turn v p x ≡ true
unfolding turn
turn_from v p x h k =
    and_from (ltb 0 x) (leb v p || ltb ((x - 1) % v) (p - 1)) (lt-ltb 0 x h)
    (elim k [ inl l ↦ or_left (leb v p) (ltb ((x - 1) % v) (p - 1)) (le-leb v p l) | inr r ↦ or_right (leb v p) (ltb ((x - 1) % v) (p - 1)) (lt-ltb ((x - 1) % v) (p - 1) r) ])

-- the age of stage s at t
pub age_at : (v s t : ℕ) → s < v → s < t → (t - s - 1) % v ≡ back v (t % v) s
age_at v s t h k = let e : s + 1 + (t - s - 1) ≡ t = omega arith in age v s (t - s - 1) h ∙ ap (λ x. back v (x % v) s) e

pub spares_ring : (v p t i : ℕ) → p < v → (i ≡ t % p → ⊥) → spares (event v p t) i
spares_ring v p t i h ne = subst (λ e. spares e i) (sym (event_ring v p t h)) ne

pub ne_ring : (v p t i : ℕ) → p < v → spares (event v p t) i → i ≡ t % p → ⊥
ne_ring v p t i h s = subst (λ e. spares e i) (event_ring v p t h) s

pub spares_line : (v p t i : ℕ) → v ≤ p → i < t → spares (event v p t) i
spares_line v p t i h k = elim (cases_lt t v) [
  | inl l ↦ subst (λ e. spares e i) (sym (event_line v p t h l)) (λ e. omega arith)
  | inr g ↦ subst (λ e. spares e i) (sym (event_over v p t h g)) tt
]

-- a place that is not the event's is nearer than the last
pub nearer : (n q i : ℕ) → q < n → i < n → (i ≡ q → ⊥) → back n q i + 1 < n
nearer n q i h k ne = (back_other n q i h k ne).1

-- the stage one further behind is the stage before
pub back_suc : (v m d s : ℕ) → m < v → d + 1 < v → suc s ≡ back v m d → back v m (d + 1) ≡ s
back_suc v m d s h k e = sym (back-before v m d h k) ∙ (ap (before v) (sym e) ∙ before_suc v s)

-- the oldest stage in the line is stage 0
back_oldest : (v t d s : ℕ) → t < v → d + 1 ≡ t → suc s ≡ back v t d → ⊥
back_oldest v t d s h k e = let c = back_cases v t d h (omega arith) in omega arith

pub feeder_ring : (v p i t s : ℕ) → p < v → i < p → (i ≡ t % p → ⊥) → (back p (t % p) i < t) × (suc s ≡ back v (t % v) (back p (t % p) i)) → occupant v p (before p i) t ≡ Some s
feeder_ring v p i t s h hp ne w =
    let bq : t % p < p = mod_below t p (omega arith) in
    let bm : t % v < v = mod_below t v (omega arith) in
    let n = nearer p (t % p) i bq hp ne in
    let b = back_below p (t % p) i bq hp in
    -- the stripe before is one further behind
    let at : before p i ≡ back p (t % p) (back p (t % p) i + 1) = ap (before p) (sym (back-back p (t % p) i bq hp)) ∙ back-before p (t % p) (back p (t % p) i) bq n in
    let c = back_below p (t % p) (back p (t % p) i + 1) bq n in
    let far : back p (t % p) (before p i) ≡ back p (t % p) i + 1 = ap (back p (t % p)) at ∙ back-back p (t % p) (back p (t % p) i + 1) bq n in
    let in_p : before p i < p = subst (λ x. x < p) (sym at) c in
    let live : back p (t % p) i + 1 < t = elim (cases_lt (back p (t % p) i + 1) t) [
      | inl l ↦ l
      | inr g ↦ absurd (
          let same : back p (t % p) i + 1 ≡ t = omega (arith, w.0) in
          let small : t < v = omega arith in
          let r = mod-eq_of_lt small in
          back_oldest v t (back p (t % p) i) s small same (w.1 ∙ ap (λ m. back v m (back p (t % p) i)) r))
    ] in
    ring_live v p (before p i) t h in_p (subst (λ x. x < t) (sym far) live) ∙ ap Some (ap (back v (t % v)) far ∙ back_suc v (t % v) (back p (t % p) i) s bm (omega arith) w.1)

pub active_ring : (v p t s : ℕ) → 0 < p → p < v → s < v → s < t → (t - s - 1) % v < p - 1 → (i : ℕ) × (i < p) × (occupant v p i t ≡ Some s) × spares (event v p t) i
active_ring v p t s hp h hs ht r =
    let bq : t % p < p = mod_below t p (omega arith) in
    let bm : t % v < v = mod_below t v (omega arith) in
    let d = back v (t % v) s in
    let a = age_at v s t hs ht in
    let small : d < p = omega (arith, a) in
    let i = back p (t % p) d in
    let ip = back_below p (t % p) d bq small in
    let far : back p (t % p) i ≡ d = back-back p (t % p) d bq small in
    let low = mod-le (t - s - 1) v in (
      i,
      ip,
      ring_live v p i t h ip (omega (arith, far, a, low)) ∙ ap Some (ap (back v (t % v)) far ∙ back-back v (t % v) s bm hs),
      spares_ring v p t i h (λ e. let z : d ≡ p - 1 = sym far ∙ (ap (back p (t % p)) e ∙ back_self p (t % p) bq) in omega (arith, a, z)),
    )

-- ---- the laws, for any v and p

-- a stage in a stripe is a stage, and was brought before
pub in_range : (v p i t s : ℕ) → 0 < v → i < p → occupant v p i t ≡ Some s → (s < v) × (s < t)
in_range v p i zero s hv hp e = absurd (let n = sym e ∙ occupant_zero v p i in cc)
in_range v p i (suc t) s hv hp e =
    let a : suc t ≡ t + 1 = omega arith in
    let f = rw a at e in
    let wider = λ (g : occupant v p i t ≡ Some s). let w = in_range v p i t s hv hp g in let r : (s < v) × (s < suc t) = (w.0, omega (arith, w.1)) in r in
    elim (cases_lt p v) [
      | inl h ↦ elim (cases_eq i (t % p)) [
        | inl q ↦ (let z : s ≡ t % v = some_same _ _ (sym f ∙ occupant_hit v p i t (t % v) (t % p) (event_ring v p t h) q) in
            (omega (arith, mod_below t v hv), omega (arith, mod-le t v)))
        | inr ne ↦ wider (sym (occupant_other v p i t (t % v) (t % p) (event_ring v p t h) ne) ∙ f)
      ]
      | inr h ↦ (let w = line_of v p i (suc t) s h e in (omega (arith, w.0, w.2), omega (arith, w.0, w.1)))
    ]

-- where stage s + 1 computes, stage s is in the stripe before
pub feeder : (v p i t s : ℕ) → 0 < v → i < p → spares (event v p t) i → occupant v p i t ≡ Some (suc s) → occupant v p (before p i) t ≡ Some s
feeder v p i t s hv hp a e = elim (cases_lt p v) [
  | inl h ↦ feeder_ring v p i t s h hp (ne_ring v p t i h a) (ring_of v p i t (suc s) h hp e)
  | inr h ↦ (
      let w = line_of v p i t (suc s) h e in
      let b : before p i ≡ s = ap (before p) (sym w.0) ∙ before_suc p s in
      ap (λ j. occupant v p j t) b ∙ line_live v p s t h (omega (arith, w.0, w.1)) (omega (arith, w.0, w.2)))
]

-- no two stages are in one stripe, nor one in two
pub alone : (v p i j t s : ℕ) → i < p → j < p → occupant v p i t ≡ Some s → occupant v p j t ≡ Some s → i ≡ j
alone v p i j t s hi hj e f = elim (cases_lt p v) [
  | inl h ↦ (
      let bq : t % p < p = mod_below t p (omega arith) in
      let bm : t % v < v = mod_below t v (omega arith) in
      let a = ring_of v p i t s h hi e in
      let b = ring_of v p j t s h hj f in
      let c = back_below p (t % p) i bq hi in
      let d = back_below p (t % p) j bq hj in
      back_alone p (t % p) i j bq hi hj (back_alone v (t % v) _ _ bm (omega arith) (omega arith) (sym a.1 ∙ b.1)))
  | inr h ↦ sym (line_of v p i t s h e).0 ∙ (line_of v p j t s h f).0
]

-- the stage that comes is in no stripe
pub absent : (v p i t m q : ℕ) → i < p → event v p t ≡ Some (m, q) → occupant v p i t ≡ Some m → ⊥
absent v p i t m q hp ev e = elim (cases_lt p v) [
  | inl h ↦ (
      let bq : t % p < p = mod_below t p (omega arith) in
      let bm : t % v < v = mod_below t v (omega arith) in
      let w = ring_of v p i t m h hp e in
      let z : m ≡ t % v = ap (λ (x : ℕ × ℕ). x.0) (some_same_pair _ _ (sym ev ∙ event_ring v p t h)) in
      let b = back_below p (t % p) i bq hp in
      let d = back_alone v (t % v) (back p (t % p) i) (v - 1) bm (omega arith) (omega arith) (sym w.1 ∙ (z ∙ sym (back-last v (t % v) bm))) in
      omega (arith, d))
  | inr h ↦ elim (cases_lt t v) [
    | inl l ↦ (
        let w = line_of v p i t m h e in
        let z : m ≡ t = ap (λ (x : ℕ × ℕ). x.0) (some_same_pair _ _ (sym ev ∙ event_line v p t h l)) in
        omega (arith, w.0, w.1))
    | inr g ↦ (let n = sym ev ∙ event_over v p t h g in cc)
  ]
]

-- stage s computes in cycle t exactly where `turn (t - s)`
pub active : (v p t s : ℕ) → 0 < p → s < v → turn v p (t - s) ≡ true → (i : ℕ) × (i < p) × (occupant v p i t ≡ Some s) × spares (event v p t) i
active v p t s hp hs h =
    let w = turn_at v p (t - s) h in
    elim (cases_lt p v) [
      | inl k ↦ active_ring v p t s hp k hs (omega (arith, w.0)) (elim w.1 [ inl l ↦ absurd (omega arith) | inr r ↦ r ])
      | inr k ↦ (s, omega arith, line_live v p s t k (omega (arith, w.0)) hs, spares_line v p t s k (omega (arith, w.0)))
    ]

pub turns : (v p i t s : ℕ) → 0 < v → i < p → occupant v p i t ≡ Some s → spares (event v p t) i → turn v p (t - s) ≡ true
turns v p i t s hv hp e a =
    let r = in_range v p i t s hv hp e in
    turn_from v p (t - s) (omega (arith, r.1)) (elim (cases_lt p v) [
      | inl k ↦ (
          let w = ring_of v p i t s k hp e in
          let bq : t % p < p = mod_below t p (omega arith) in
          let bm : t % v < v = mod_below t v (omega arith) in
          let n = nearer p (t % p) i bq hp (ne_ring v p t i k a) in
          let b : back v (t % v) s ≡ back p (t % p) i = ap (back v (t % v)) w.1 ∙ back-back v (t % v) (back p (t % p) i) bm (omega arith) in
          inr (omega (arith, age_at v s t r.0 r.1, b)))
      | inr k ↦ inl k
    ])

-- ---- what the plan answers of a stage

pub active_some : (v p t s i : ℕ) → p < v → s < v → s < t → 0 < p → back v (t % v) s + 1 < p → i ≡ back p (t % p) (back v (t % v) s) → IsActive v p t s (Some i)
active_some v p t s i h hs ht hp hd e =
    let bq : t % p < p = mod_below t p (omega arith) in
    let bm : t % v < v = mod_below t v (omega arith) in
    let w = active_ring v p t s hp h hs ht (let a = age_at v s t hs ht in omega arith) in
    let d = back v (t % v) s in
    let x = back_below p (t % p) d bq (omega arith) in
    let low = mod-le (t - s - 1) v in
    let far : back p (t % p) (back p (t % p) d) ≡ d = back-back p (t % p) d bq (omega arith) in
    let a = age_at v s t hs ht in
    let occ : occupant v p (back p (t % p) d) t ≡ Some s = ring_live v p (back p (t % p) d) t h x (omega (arith, far, a, low)) ∙ ap Some (ap (back v (t % v)) far ∙ back-back v (t % v) s bm hs) in
    let sp : spares (event v p t) (back p (t % p) d) = spares_ring v p t (back p (t % p) d) h (λ q. let z : d ≡ p - 1 = sym far ∙ (ap (back p (t % p)) q ∙ back_self p (t % p) bq) in omega arith) in
    subst (λ j. IsActive v p t s (Some j)) (sym e) (x, occ, sp, turns v p (back p (t % p) d) t s (omega arith) x occ sp)

pub active_line : (v p t s : ℕ) → v ≤ p → s < v → s < t → IsActive v p t s (Some s)
active_line v p t s h hs ht =
    let occ = line_live v p s t h ht hs in
    let sp = spares_line v p t s h ht in
    (omega arith, occ, sp, turns v p s t s (omega arith) (omega arith) occ sp)

pub active_none : (v p t s : ℕ) → p < v → s < v → s < t → 0 < p → p ≤ back v (t % v) s + 1 → turn v p (t - s) ≡ false
active_none v p t s h hs ht hp hd = false_from_ne_true (turn v p (t - s)) (λ e.
    let w = turn_at v p (t - s) e in
    let a = age_at v s t hs ht in
    elim w.1 [ inl l ↦ omega arith | inr r ↦ omega arith ])

pub active_early : (v p t s : ℕ) → t ≤ s → turn v p (t - s) ≡ false
active_early v p t s h = false_from_ne_true (turn v p (t - s)) (λ e. let w = turn_at v p (t - s) e in omega (arith, w.0))

-- where the turn is false, stage s computes nowhere
pub idle : (v p i t s : ℕ) → 0 < v → i < p → turn v p (t - s) ≡ false → occupant v p i t ≡ Some s → spares (event v p t) i → ⊥
idle v p i t s hv hp h e a = let z = sym h ∙ turns v p i t s hv hp e a in cc

pub resident_early : (v p t s : ℕ) → 0 < v → t ≤ s → IsResident v p t s false
resident_early v p t s hv h = λ i hi e. let r = in_range v p i t s hv hi e in omega (arith, r.1)

pub resident_line : (v p t s : ℕ) → v ≤ p → s < v → s < t → IsResident v p t s true
resident_line v p t s h hs ht = (s, omega arith, line_live v p s t h ht hs)

pub resident_ring : (v p t s d : ℕ) → p < v → 0 < p → s < v → s < t → d ≡ back v (t % v) s → IsResident v p t s (ltb d p)
resident_ring v p t s d h hp hs ht e = elim (cases_lt d p) [
  | inl l ↦ subst (IsResident v p t s) (sym (lt-ltb d p l)) (
      let bq : t % p < p = mod_below t p (omega arith) in
      let bm : t % v < v = mod_below t v (omega arith) in
      let a = age_at v s t hs ht in
      let low = mod-le (t - s - 1) v in
      let i = back p (t % p) d in
      let ip = back_below p (t % p) d bq l in
      let far : back p (t % p) i ≡ d = back-back p (t % p) d bq l in
      (i, ip, ring_live v p i t h ip (omega (arith, far, a, low, e)) ∙ ap Some (ap (back v (t % v)) (far ∙ e) ∙ back-back v (t % v) s bm hs)))
  | inr g ↦ subst (IsResident v p t s) (sym (le-ltb d p g)) (λ i hi o.
      let bq : t % p < p = mod_below t p (omega arith) in
      let bm : t % v < v = mod_below t v (omega arith) in
      let w = ring_of v p i t s h hi o in
      let b = back_below p (t % p) i bq hi in
      let z : d ≡ back p (t % p) i = e ∙ (ap (back v (t % v)) w.1 ∙ back-back v (t % v) (back p (t % p) i) bm (omega arith)) in
      omega arith)
]

-- ---- the stage that an event finds in its stripe
pub evicted : (v p t : ℕ) → p < v → 0 < p → p ≤ t → occupant v p (t % p) t ≡ Some ((t - p) % v)
evicted v p t h hp k =
    let bq : t % p < p = mod_below t p hp in
    let self = back_self p (t % p) bq in
    let a = age_at v (p - 1) t (omega arith) (omega arith) in
    let e : t - (p - 1) - 1 ≡ t - p = omega arith in
    ring_live v p (t % p) t h bq (omega arith) ∙ ap Some (ap (back v (t % v)) self ∙ (sym a ∙ ap (λ x. x % v) e))

pub evicted_none : (v p t : ℕ) → p < v → 0 < p → t < p → occupant v p (t % p) t ≡ None
evicted_none v p t h hp k =
    let bq : t % p < p = mod_below t p hp in
    let self = back_self p (t % p) bq in
    ring_blank v p (t % p) t h bq (omega arith)

pub evicted_line : (v p t : ℕ) → v ≤ p → occupant v p t t ≡ None
evicted_line v p t h = line_blank v p t t h (inl (omega arith))

-- the closed form of residence: stage s is in the stripe of its last event, (t - s - 1) % v events ago
pub resident_at : (v p t s i : ℕ) → p < v → i < p → s < v → occupant v p i t ≡ Some s → ((t - s - 1) % v < p) × (i ≡ (t - 1 - (t - s - 1) % v) % p)
resident_at v p t s i h hi hs o =
    let bq : t % p < p = mod_below t p (omega arith) in
    let bm : t % v < v = mod_below t v (omega arith) in
    let w = ring_of v p i t s h hi o in
    let r = in_range v p i t s (omega arith) hi o in
    let b = back_below p (t % p) i bq hi in
    let a = age_at v s t hs r.1 in
    let z : (t - s - 1) % v ≡ back p (t % p) i = a ∙ (ap (back v (t % v)) w.1 ∙ back-back v (t % v) (back p (t % p) i) bm (omega arith)) in
    let c = age_at p (back p (t % p) i) t b w.0 in
    let e : t - back p (t % p) i - 1 ≡ t - 1 - (t - s - 1) % v = omega (arith, z) in
    (omega (arith, z), sym (back-back p (t % p) i bq hi) ∙ (sym c ∙ ap (λ x. x % p) e))
