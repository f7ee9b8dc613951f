-- A cycle that is stalled changes nothing, and one that is not takes what stands for an account to what stands for the next.
use Rattle.std.proofs.Common.{◌≡◌, ℕ, suc, ◌+◌, ◌-◌, ◌<◌, ◌≤◌, ◌%◌, Bool, true, false, cond, ◌&&◌, leb, eqb, List, [], ◌∷◌, ◌++◌, length, get_or, take, drop, refl, sym, ap, ap₂, ◌∙◌, subst, arith, inl, inr, Option, Some, None, slice_get, is_some, length-drop}
use Rattle.std.specs.Option.{option_map}
use Rattle.std.proofs.lemmas.Bool.{cases_eq, cases_lt, cases_Bool, cond-true, cond-false, eq-eqb, ne_eqb, eqb-false, lt-ltb, le-ltb, le-leb, lt-leb}
use Rattle.std.proofs.lemmas.Nat.{mod_below}
use Rattle.std.proofs.lemmas.List.{take_more, drop-append-le, length-take-le, length-map}
use Rattle.std.proofs.lemmas.Option.{slice_get-map, get_or_from_slice_get, slice_get_within}
use Rattle.pr_control.specs.Time.{event, occupant, spares, before, IsActive, IsRing}
use Rattle.pr_control.proofs.TimeLaws.{event_ring, event_line, event_over, line_blank}
use Rattle.pr_control.proofs.Round.{before_below}
use Rattle.pr_control.proofs.Residence.{in_range, feeder, line_of, ne_ring, evicted, evicted_none, evicted_line}
use Rattle.pr_conf_pipeline.specs.Rows.{Step, rows, through, state_after}
use Rattle.pr_conf_pipeline.proofs.RowLaws.{length-rows}
use Rattle.pr_machine_account.specs.Account.{Account, Cycle, below, enters, entered, left, stalled, after, IsEntries, IsLawful}
use Rattle.pr_machine_account.specs.Flow.{state_at, read_at}
use Rattle.pr_machine_account.proofs.AccountLaws.{lawful_entered, entered_below, entered_enters, left_step, done_below}
use Rattle.pr_machine_account.proofs.FlowLaws.{read_none, below_few}
use Rattle.pr_machine_refines.specs.Spots.{Spot, Bare, Held, shows, stage_in, stepped}
use Rattle.pr_machine_refines.specs.Cycle.{will_enter, will_leave, bus_of, rest_of, leaves, pushed, HasRoom, IsRingStep, IsLineStep, AreStepped, IsTurned, saved_by, evicted_stage}
use Rattle.pr_machine_refines.proofs.Fits.{spot_for, Fits, StandsAt}
use Rattle.pr_machine_refines.proofs.CycleLaws.{still, stays, quiet, moved, cases_option}
use Rattle.pr_machine_refines.proofs.Entering.{entering, some_at}

-- ---- the cycle's own entry changes nothing of what stands
state_entered : {S R : Type 0} (M : ℕ → Step S R) (xs : List R) (v p : ℕ) (a : Account R) (s : ℕ) → state_at M xs a.entries s (a.time - s) ≡ state_at M xs (entered v p a) s (a.time - s)
unfolding state_at
state_entered M xs v p a s = ap (λ j. state_after M s j xs) (sym (entered_below v p a (a.time - s) (omega arith)))

read_entered : {S R : Type 0} (M : ℕ → Step S R) (xs : List R) (v p : ℕ) (a : Account R) (s : ℕ) → s < a.time → read_at M xs a.entries (suc s) (a.time - suc s) ≡ read_at M xs (entered v p a) (suc s) (a.time - suc s)
unfolding read_at
read_entered M xs v p a s h =
    ap₂ (λ b j. cond b (slice_get (rows M (suc s) xs) j) None) (sym (entered_enters v p a (a.time - suc s) (omega arith))) (sym (entered_below v p a (a.time - suc s) (omega arith)))

spot_entered : {S R : Type 0} (M : ℕ → Step S R) (v p : ℕ) (a : Account R) (o : Option ℕ) → ((s : ℕ) → o ≡ Some s → s < a.time) → spot_for M a.offered a.entries a.time o ≡ spot_for M a.offered (entered v p a) a.time o
spot_entered M v p a None h = refl
spot_entered M v p a (Some s) h = ap₂ (Held s) (state_entered M a.offered v p a s) (read_entered M a.offered v p a s (h s refl))

fits_entered : {S R : Type 0} (M : ℕ → Step S R) (v p : ℕ) (a : Account R) (spots : ℕ → Spot S R) (store : ℕ → S) → 0 < v → Fits M v p a.time a.offered a.entries spots store → Fits M v p a.time a.offered (entered v p a) spots store
fits_entered M v p a spots store hv f = record {
  each = λ i hi. f.each i hi ∙ spot_entered M v p a (occupant v p i a.time) (λ s e. (in_range v p i a.time s hv hi e).1);
  rows = λ s hs h. f.rows s hs h ∙ state_entered M a.offered v p a s;
}

-- ---- a row is valid exactly where a sample entered
inside_below : (v p n x : ℕ) (es : List ℕ) → IsEntries v p n es → enters x es ≡ true → below x es < length es
inside_below v p n x es h e = let o = h.once x in let l = below_few (x + 1) es in let c = ap (λ b. cond {A = ℕ} b 1 0) e in omega arith

pub read_some : {S R : Type 0} (M : ℕ → Step S R) (xs : List R) (s x : ℕ) (es : List ℕ) → enters x es ≡ true → read_at M xs es s x ≡ slice_get (rows M s xs) (below x es)
unfolding read_at
read_some M xs s x es e = rw e refl

is_some_within : {R : Type 0} (xs : List R) (i : ℕ) → i < length xs → is_some (slice_get xs i) ≡ true
is_some_within xs i h = let w = some_at xs i h in ap is_some w.1

is_some_read : {S R : Type 0} (M : ℕ → Step S R) (xs : List R) (v p n s x : ℕ) (es : List ℕ) → IsEntries v p n es → length es ≤ length xs → is_some (read_at M xs es s x) ≡ enters x es
is_some_read M xs v p n s x es h l = elim (cases_Bool (enters x es)) [
  | inl e ↦ (let k = inside_below v p n x es h e in let len = length-rows M s xs in
      ap is_some (read_some M xs s x es e) ∙ (is_some_within (rows M s xs) (below x es) (omega arith) ∙ sym e))
  | inr e ↦ ap is_some (read_none M xs es s x e) ∙ sym e
]

-- ---- whether the last stage would compute a valid row
leave_is : {S R : Type 0} (M : ℕ → Step S R) (v p n t : ℕ) (xs : List R) (es : List ℕ) (spots : ℕ → Spot S R) (store : ℕ → S) (last : Option ℕ) → 0 < v → IsEntries v p n es → length es ≤ length xs
    → Fits M v p t xs es spots store → IsActive v p t (v - 1) last → will_leave p spots (eqb v 1) (enters t es) last ≡ enters (t + 1 - v) es
leave_is M v p n t xs es spots store None hv h l f k =
    let e : t + 1 - v ≡ t - (v - 1) = omega arith in
    sym (ap (λ x. enters x es) e ∙ still v p n t es (v - 1) h k)
leave_is M v p n t xs es spots store (Some at) hv h l f k = elim (cases_eq v 1) [
  | inl e ↦ cond-true (eqb v 1) _ _ (eq-eqb v 1 e) ∙ ap (λ x. enters x es) (let z : t ≡ t + 1 - v = omega arith in z)
  | inr ne ↦ cond-false (eqb v 1) _ _ (ne_eqb v 1 ne) ∙ (
      let w = v - 2 in
      let s : suc w ≡ v - 1 = omega arith in
      let o : occupant v p at t ≡ Some (suc w) = k.1 ∙ ap Some (sym s) in
      let b = feeder v p at t w hv k.0 k.2 o in
      let hb = before_below p at k.0 in
      let sh : shows (spots (before p at)) ≡ read_at M xs es (suc w) (t - suc w) = ap shows (f.each (before p at) hb ∙ ap (spot_for M xs es t) b) in
      let x : t - suc w ≡ t + 1 - v = omega arith in
      ap is_some sh ∙ (is_some_read M xs v p n (suc w) (t - suc w) es h l ∙ ap (λ y. enters y es) x))
]

-- ---- what the loop's facts say of every place on which no event falls

-- stage 0 reads no other place
any_before : {S R : Type 0} (M : ℕ → Step S R) (bus b c : Option R) (spot new : Spot S R) (s : ℕ) (st : S) (r : Option R) → s ≡ 0 → spot ≡ Held s st r → new ≡ stepped M bus spot b → new ≡ stepped M bus spot c
any_before M bus b c spot new s st r z h k =
    k ∙ (ap (λ x. stepped M bus x b) (h ∙ ap (λ n. Held n st r) z) ∙ sym (ap (λ x. stepped M bus x c) (h ∙ ap (λ n. Held n st r) z)))

-- nor does a stripe without a stage, which stays as it is
bare_before : {S R : Type 0} (M : ℕ → Step S R) (bus b c r : Option R) (spot new : Spot S R) → spot ≡ Bare r → new ≡ stepped M bus spot b → new ≡ stepped M bus spot c
bare_before M bus b c r spot new h k = k ∙ (ap (λ x. stepped M bus x b) h ∙ sym (ap (λ x. stepped M bus x c) h))

bare_kept : {S R : Type 0} (M : ℕ → Step S R) (bus b r : Option R) (spot new : Spot S R) → spot ≡ Bare r → new ≡ stepped M bus spot b → new ≡ spot
bare_kept M bus b r spot new h k = k ∙ (ap (λ x. stepped M bus x b) h ∙ sym h)

-- each place on which no event falls has computed, and that of the event is as it was
pub record IsComputed {S R : Type 0} (M : ℕ → Step S R) (v : ℕ) (bus : Option R) (p t : ℕ) (old mid : ℕ → Spot S R) : Type 0 where
  pub step : (i : ℕ) → i < p → spares (event v p t) i → mid i ≡ stepped M bus (old i) (shows (old (before p i)))
  pub kept : (m q : ℕ) → event v p t ≡ Some (m, q) → q < p → mid q ≡ old q

pair_same : (x y : ℕ × ℕ) → Some x ≡ Some y → x ≡ y
pair_same x y e = cc

pair_is : (a b c d : ℕ) (o : Option (ℕ × ℕ)) → o ≡ Some (a, b) → o ≡ Some (c, d) → (a ≡ c) × (b ≡ d)
pair_is a b c d o e f =
    let z = pair_same (a, b) (c, d) (sym e ∙ f) in
    (ap (λ (x : ℕ × ℕ). x.0) z, ap (λ (x : ℕ × ℕ). x.1) z)

computed_ring : {S R : Type 0} (M : ℕ → Step S R) (v p : ℕ) (bus : Option R) (t q : ℕ) (old mid : ℕ → Spot S R) → p < v → q ≡ t % p → IsRingStep M bus p q old mid → IsComputed M v bus p t old mid
computed_ring M v p bus t q old mid h e k = record {
  step = λ i hi a. k.step i hi (λ z. ne_ring v p t i h a (z ∙ e));
  kept = λ m r ev hr.
      let z = pair_is m r (t % v) (t % p) _ ev (event_ring v p t h) in
      subst (λ j. mid j ≡ old j) (e ∙ sym z.1) k.kept;
}

line_step : {S R : Type 0} (M : ℕ → Step S R) (v p : ℕ) (bus : Option R) (t : ℕ) (xs : List R) (es : List ℕ) (old mid : ℕ → Spot S R) (store : ℕ → S) → v ≤ p → Fits M v p t xs es old store → IsLineStep M bus p old mid → (i : ℕ) → i < p → mid i ≡ stepped M bus (old i) (shows (old (before p i)))
line_step M v p bus t xs es old mid store h f k i hi = elim (cases_eq i 0) [
  | inl e ↦ subst (λ j. mid j ≡ stepped M bus (old j) (shows (old (before p j)))) (sym e)
      (elim (cases_option (occupant v p 0 t)) [
        | inl n ↦ bare_before M bus _ _ None (old 0) (mid 0) (f.each 0 (omega arith) ∙ ap (spot_for M xs es t) n) k.first
        | inr w ↦ (let l = line_of v p 0 t w.0 h w.1 in
            any_before M bus _ _ (old 0) (mid 0) w.0 _ _ l.0 (f.each 0 (omega arith) ∙ ap (spot_for M xs es t) w.1) k.first)
      ])
  | inr ne ↦ k.step i hi ne
]

computed_line : {S R : Type 0} (M : ℕ → Step S R) (v p : ℕ) (bus : Option R) (t : ℕ) (xs : List R) (es : List ℕ) (old mid : ℕ → Spot S R) (store : ℕ → S) → v ≤ p → Fits M v p t xs es old store → IsLineStep M bus p old mid → IsComputed M v bus p t old mid
computed_line M v p bus t xs es old mid store h f k = record {
  step = λ i hi a. line_step M v p bus t xs es old mid store h f k i hi;
  kept = λ m q ev hq. elim (cases_lt t v) [
    | inl l ↦ (
        let z = pair_is m q t t _ ev (event_line v p t h l) in
        let n = line_blank v p q t h (inl (omega (arith, z.1))) in
        bare_kept M bus _ None (old q) (mid q) (f.each q hq ∙ ap (spot_for M xs es t) n) (line_step M v p bus t xs es old mid store h f k q hq))
    | inr g ↦ absurd (let z = sym ev ∙ event_over v p t h g in cc)
  ];
}

pub computed : {S R : Type 0} (M : ℕ → Step S R) (v p : ℕ) (bus : Option R) (t : ℕ) (xs : List R) (es : List ℕ) (old mid : ℕ → Spot S R) (store : ℕ → S) (ring : Option ℕ) → IsRing v p t ring → Fits M v p t xs es old store → AreStepped M bus p ring old mid → IsComputed M v bus p t old mid
computed M v p bus t xs es old mid store None r f k = computed_line M v p bus t xs es old mid store r f k
computed M v p bus t xs es old mid store (Some q) r f k = computed_ring M v p bus t q old mid r.0 r.1 k

-- ---- the machine one cycle on

-- an event brings a stage, into a stripe
event_inside : (v p t : ℕ) → 0 < v → 0 < p → (m q : ℕ) → event v p t ≡ Some (m, q) → (m < v) × (q < p)
event_inside v p t hv hp m q e = elim (cases_lt p v) [
  | inl h ↦ (let z = pair_is m q (t % v) (t % p) _ e (event_ring v p t h) in
      (subst (λ x. x < v) (sym z.0) (mod_below t v hv), subst (λ x. x < p) (sym z.1) (mod_below t p hp)))
  | inr h ↦ elim (cases_lt t v) [
    | inl l ↦ (let z = pair_is m q t t _ e (event_line v p t h l) in (omega (arith, z.0), omega (arith, z.1)))
    | inr g ↦ absurd (let z = sym e ∙ event_over v p t h g in cc)
  ]
]

turned_fits : {S R : Type 0} (M : ℕ → Step S R) (v p n t : ℕ) (xs : List R) (es : List ℕ) (bus : Option R) (old mid new : ℕ → Spot S R) (store store' : ℕ → S) (o : Option (ℕ × ℕ)) → event v p t ≡ o → IsEntries v p n es → 0 < v → 0 < p
    → Fits M v p t xs es old store → bus ≡ read_at M xs es 0 t → IsComputed M v bus p t old mid → ((m q : ℕ) → o ≡ Some (m, q) → (m < v) × (q < p)) → IsTurned v o mid new store store' → Fits M v p (t + 1) xs es new store'
turned_fits M v p n t xs es bus old mid new store store' None e h hv hp f b k r w =
    quiet M v p t xs es n h hv hp bus old mid store f b k.step new store' e w
turned_fits M v p n t xs es bus old mid new store store' (Some ev) e h hv hp f b k r w =
    let g = r ev.0 ev.1 refl in
    moved M v p t xs es n h hv hp bus old mid store f b k.step ev.0 ev.1 new store' e g.1 g.0 (k.kept ev.0 ev.1 e g.1) w

-- what leaves is what a stage after the last would read
leaves_is : {S R : Type 0} (M : ℕ → Step S R) (v p n t : ℕ) (xs : List R) (es : List ℕ) (bus : Option R) (old mid : ℕ → Spot S R) (store : ℕ → S) (last : Option ℕ) → IsEntries v p n es → 0 < v → 0 < p
    → Fits M v p t xs es old store → bus ≡ read_at M xs es 0 t → IsComputed M v bus p t old mid → IsActive v p t (v - 1) last → leaves mid last ≡ read_at M xs es v (t + 1 - v)
leaves_is M v p n t xs es bus old mid store None h hv hp f b k a =
    let e : t + 1 - v ≡ t - (v - 1) = omega arith in
    sym (read_none M xs es v (t + 1 - v) (ap (λ x. enters x es) e ∙ still v p n t es (v - 1) h a))
leaves_is M v p n t xs es bus old mid store (Some at) h hv hp f b k a =
    let s : suc (v - 1) ≡ v = omega arith in
    let y = stays M v p t xs es n h hv hp bus old mid store f b k.step at a.0 a.2 in
    ap shows (y ∙ ap (spot_for M xs es (t + 1)) a.1) ∙ ap (λ m. read_at M xs es m (t + 1 - m)) s

-- the stage that the event puts out of its stripe
evicted_is : (v p t : ℕ) (o : Option ℕ) → p < v → 0 < p → occupant v p (t % p) t ≡ o → o ≡ evicted_stage v p t
evicted_is v p t o h hp e = elim (cases_lt t p) [
  | inl l ↦ sym e ∙ (evicted_none v p t h hp l ∙ sym (ap₂ (λ b c. cond (b && c) (Some ((t - p) % v)) None) (lt-ltb p v h) (lt-leb p t l)))
  | inr g ↦ sym e ∙ (evicted v p t h hp g ∙ sym (ap₂ (λ b c. cond (b && c) (Some ((t - p) % v)) None) (lt-ltb p v h) (le-leb p t g)))
]

stage_for : {S R : Type 0} (M : ℕ → Step S R) (xs : List R) (es : List ℕ) (t : ℕ) (o : Option ℕ) → stage_in (spot_for M xs es t o) ≡ o
stage_for M xs es t None = refl
stage_for M xs es t (Some s) = refl

pub saved_is : {S R : Type 0} (M : ℕ → Step S R) (v p : ℕ) (bus : Option R) (t : ℕ) (xs : List R) (es : List ℕ) (old mid : ℕ → Spot S R) (store : ℕ → S) → 0 < v → 0 < p
    → Fits M v p t xs es old store → IsComputed M v bus p t old mid → saved_by mid (event v p t) ≡ evicted_stage v p t
saved_is M v p bus t xs es old mid store hv hp f k = elim (cases_lt p v) [
  | inl h ↦ (
      let e = event_ring v p t h in
      let hq = mod_below t p hp in
      ap (saved_by mid) e ∙ (ap stage_in (k.kept (t % v) (t % p) e hq ∙ f.each (t % p) hq) ∙ (stage_for M xs es t (occupant v p (t % p) t) ∙ evicted_is v p t _ h hp refl)))
  | inr h ↦ (
      let z : evicted_stage v p t ≡ None = ap (λ b. cond (b && leb p t) (Some ((t - p) % v)) None) (le-ltb p v h) in
      elim (cases_lt t v) [
        | inl l ↦ (
            let e = event_line v p t h l in
            let hq : t < p = omega arith in
            ap (saved_by mid) e ∙ (ap stage_in (k.kept t t e hq ∙ f.each t hq) ∙ (stage_for M xs es t (occupant v p t t) ∙ (evicted_line v p t h ∙ sym z))))
        | inr g ↦ ap (saved_by mid) (event_over v p t h g) ∙ sym z
      ])
]

-- ---- the results, one more or none
take_none : {B : Type 0} (taken l : ℕ) (rs : List B) (b : Bool) → b ≡ false → drop taken (take l rs) ≡ drop taken (take (l + cond b 1 0) rs)
take_none taken l rs b e = let z : l ≡ l + cond b 1 0 = rw e (let y : l ≡ l + 0 = omega arith in y) in ap (λ n. drop taken (take n rs)) z

take_one : {B : Type 0} (taken l : ℕ) (rs : List B) (r : B) (b : Bool) → b ≡ true → taken ≤ l → slice_get rs l ≡ Some r → drop taken (take l rs) ++ r ∷ [] ≡ drop taken (take (l + cond b 1 0) rs)
take_one taken l rs r b e h k =
    let z : l + 1 ≡ l + cond b 1 0 = rw e refl in
    let w = slice_get_within rs l r k in
    let n : taken ≤ length (take l rs) = let m = length-take-le l rs (omega arith) in omega arith in
    let g : get_or rs l r ≡ r = get_or_from_slice_get rs l r r k in
    sym (drop-append-le taken (take l rs) (r ∷ []) n) ∙ (ap (λ x. drop taken (take l rs ++ x ∷ [])) (sym g) ∙ (ap (drop taken) (sym (take_more rs l r w)) ∙ ap (λ n. drop taken (take n rs)) z))

pushed_is : {S R B : Type 0} (M : ℕ → Step S R) (tap : R → B) (xs : List R) (es : List ℕ) (v p n x taken l : ℕ) → IsEntries v p n es → length es ≤ length xs → below x es ≡ l → taken ≤ l
    → pushed (drop taken (take l (through M v tap xs))) (option_map tap (read_at M xs es v x)) ≡ drop taken (take (l + cond (enters x es) 1 0) (through M v tap xs))
pushed_is M tap xs es v p n x taken l h k e hl = elim (cases_Bool (enters x es)) [
  | inl y ↦ (
      let i = inside_below v p n x es h y in
      let len = length-rows M v xs in
      let w = some_at (rows M v xs) l (omega arith) in
      let r : read_at M xs es v x ≡ Some w.0 = read_some M xs v x es y ∙ (ap (slice_get (rows M v xs)) e ∙ w.1) in
      let g : slice_get (through M v tap xs) l ≡ Some (tap w.0) = slice_get-map tap (rows M v xs) l ∙ ap (option_map tap) w.1 in
      ap (λ o. pushed (drop taken (take l (through M v tap xs))) (option_map tap o)) r ∙ take_one taken l (through M v tap xs) (tap w.0) (enters x es) y hl g)
  | inr y ↦ ap (λ o. pushed (drop taken (take l (through M v tap xs))) (option_map tap o)) (read_none M xs es v x y) ∙ take_none taken l (through M v tap xs) (enters x es) y
]

-- ---- the machine stands, one cycle on
left_few : {S R B : Type 0} (M : ℕ → Step S R) (tap : R → B) (v p : ℕ) (a : Account R) → IsLawful v p a → left v a ≤ length (through M v tap a.offered)
left_few M tap v p a h =
    let d = done_below (v - 1) a.time a.entries in
    let b = below_few (a.time - (v - 1)) a.entries in
    let f = h.few in
    let l = length-rows M v a.offered in
    let m = length-map (rows M v a.offered) tap in
    omega arith

pub waiting_results : {S R B : Type 0} (M : ℕ → Step S R) (tap : R → B) (v p : ℕ) (spots : ℕ → Spot S R) (store : ℕ → S) (t come gone : ℕ) (waiting : List R) (ready : List B) (a : Account R) → IsLawful v p a
    → StandsAt M tap v p spots store t come gone waiting ready a → length ready ≡ left v a - a.taken
waiting_results M tap v p spots store t come gone waiting ready a h st =
    ap length st.output ∙ (length-drop a.taken (take (left v a) (through M v tap a.offered)) ∙ ap (λ m. m - a.taken) (length-take-le (left v a) (through M v tap a.offered) (left_few M tap v p a h)))

pub stands_stalled : {R : Type 0} (v p : ℕ) (a : Account R) → stalled v p a ≡ true → after v p a Cycle ≡ a
stands_stalled v p a e = cond-true (stalled v p a) _ _ e

-- where the cycle is stalled
pub stalled_is : {S R B : Type 0} (M : ℕ → Step S R) (tap : R → B) (v p : ℕ) (spots : ℕ → Spot S R) (store : ℕ → S) (t come gone : ℕ) (waiting : List R) (ready : List B) (a : Account R) (first last : Option ℕ)
    → 0 < v → IsLawful v p a → StandsAt M tap v p spots store t come gone waiting ready a
    → IsActive v p t 0 first → IsActive v p t (v - 1) last
    → (will_leave p spots (eqb v 1) (will_enter (length waiting) first) last && eqb (length ready) 16) ≡ stalled v p a
stalled_is M tap v p spots store t come gone waiting ready a first last hv h st k1 k2 =
    let E = entered v p a in
    let w = lawful_entered v p a h in
    let k1' = subst (λ x. IsActive v p x 0 first) st.time k1 in
    let k2' = subst (λ x. IsActive v p x (v - 1) last) st.time k2 in
    let en = entering M v p a waiting first st.input h k1' in
    let f = fits_entered M v p a spots store hv st.fits in
    let lv = leave_is M v p (a.time + 1) a.time a.offered E spots store last hv w.0 w.1 f k2' in
    let r = waiting_results M tap v p spots store t come gone waiting ready a h st in
    ap₂ (λ b n. will_leave p spots (eqb v 1) b last && eqb n 16) en.will_is r ∙ ap (λ b. b && eqb (left v a - a.taken) 16) lv

room_from : {B : Type 0} (ready : List B) (o : Option B) → (is_some o ≡ true → length ready < 16) → HasRoom ready o
room_from ready None f = tt
room_from ready (Some x) f = f refl

is_some_map : {A B : Type 0} (f : A → B) (o : Option A) → is_some (option_map f o) ≡ is_some o
is_some_map f None = refl
is_some_map f (Some x) = refl

not_full : (b : Bool) (l taken : ℕ) → b ≡ true → (b && eqb (l - taken) 16) ≡ false → l ≤ taken + 16 → taken ≤ l → l - taken < 16
not_full true l taken e f h k = let n = eqb-false (l - taken) 16 f in omega arith
not_full false l taken e f h k = absurd (let z = e in cc)

-- the parts of a cycle that is not stalled
pub record IsAdvance {S R B : Type 0} (M : ℕ → Step S R) (tap : R → B) (v p : ℕ) (spots mid new : ℕ → Spot S R) (store store' : ℕ → S) (t : ℕ) (waiting : List R) (ready ready' : List B) (first last ring : Option ℕ) (bus : Option R) (byte : Option B) : Type 0 where
  pub first_is : IsActive v p t 0 first
  pub last_is : IsActive v p t (v - 1) last
  pub ring_is : IsRing v p t ring
  pub bus_is : bus ≡ bus_of waiting first
  pub stepped : AreStepped M bus p ring spots mid
  pub byte_is : byte ≡ option_map tap (leaves mid last)
  pub row : HasRoom ready byte → ready' ≡ pushed ready byte
  pub turn : IsTurned v (event v p t) mid new store store'

module _ {S R B : Type 0} (M : ℕ → Step S R) (tap : R → B) (v p : ℕ) (spots mid new : ℕ → Spot S R) (store store' : ℕ → S) (t come gone : ℕ) (waiting : List R) (ready ready' : List B) (first last ring : Option ℕ) (bus : Option R) (byte : Option B) (a : Account R)
    (hv : 0 < v) (hp : 0 < p) (h : IsLawful v p a) (st : StandsAt M tap v p spots store t come gone waiting ready a)
    (w : IsAdvance M tap v p spots mid new store store' t waiting ready ready' first last ring bus byte) where
  fits_now : Fits M v p a.time a.offered (entered v p a) spots store
  fits_now = fits_entered M v p a spots store hv st.fits

  -- what enters
  pub bus_read : bus ≡ read_at M a.offered (entered v p a) 0 a.time
  bus_read = w.bus_is ∙ (entering M v p a waiting first st.input h (subst (λ x. IsActive v p x 0 first) st.time w.first_is)).bus_is

  pub bus_told : is_some bus ≡ enters a.time (entered v p a)
  bus_told =
      let en = entering M v p a waiting first st.input h (subst (λ x. IsActive v p x 0 first) st.time w.first_is) in
      ap is_some w.bus_is ∙ (en.some ∙ en.will_is)

  all_computed : IsComputed M v bus p a.time spots mid
  all_computed = computed M v p bus a.time a.offered (entered v p a) spots mid store ring (subst (λ x. IsRing v p x ring) st.time w.ring_is) fits_now w.stepped

  pub saved_told : saved_by mid (event v p a.time) ≡ evicted_stage v p a.time
  saved_told = saved_is M v p bus a.time a.offered (entered v p a) spots mid store hv hp fits_now all_computed

  fits_new : Fits M v p (a.time + 1) a.offered (entered v p a) new store'
  fits_new =
      let l = lawful_entered v p a h in
      let tu = subst (λ x. IsTurned v (event v p x) mid new store store') st.time w.turn in
      turned_fits M v p (a.time + 1) a.time a.offered (entered v p a) bus spots mid new store store' (event v p a.time) refl l.0 hv hp fits_now bus_read all_computed (event_inside v p a.time hv hp) tu

  -- the result that leaves, if one does
  byte_read : byte ≡ option_map tap (read_at M a.offered (entered v p a) v (a.time + 1 - v))
  byte_read =
      let l = lawful_entered v p a h in
      let k2 = subst (λ x. IsActive v p x (v - 1) last) st.time w.last_is in
      w.byte_is ∙ ap (option_map tap) (leaves_is M v p (a.time + 1) a.time a.offered (entered v p a) bus spots mid store last l.0 hv hp fits_now bus_read all_computed k2)

  pub byte_told : is_some byte ≡ enters (a.time + 1 - v) (entered v p a)
  byte_told =
      let l = lawful_entered v p a h in
      ap is_some byte_read ∙ (is_some_map tap _ ∙ is_some_read M a.offered v p (a.time + 1) v (a.time + 1 - v) (entered v p a) l.0 l.1)

  free_room : stalled v p a ≡ false → HasRoom ready byte
  free_room free =
      let r = waiting_results M tap v p spots store t come gone waiting ready a h st in
      room_from ready byte (λ e.
      let y : enters (a.time + 1 - v) (entered v p a) ≡ true = sym byte_told ∙ e in
      let n = not_full (enters (a.time + 1 - v) (entered v p a)) (left v a) a.taken y free h.kept h.taken in
      omega arith)

  stands_next : stalled v p a ≡ false → StandsAt M tap v p new store' (t + 1) (come + cond (is_some bus) 1 0) (gone + cond (is_some byte) 1 0) (rest_of waiting first) ready' (record a { entries = entered v p a; time = a.time + 1 })
  stands_next free =
      let l = lawful_entered v p a h in
      let en = entering M v p a waiting first st.input h (subst (λ x. IsActive v p x 0 first) st.time w.first_is) in
      let ls = left_step v p a hv h in
      let E = entered v p a in
      let x = a.time + 1 - v in
      let b : below x E ≡ left v a = (let e : x ≡ a.time - (v - 1) = omega arith in ap (λ y. below y E) e ∙ (entered_below v p a (a.time - (v - 1)) (omega arith) ∙ sym (done_below (v - 1) a.time a.entries))) in
      let out : pushed ready byte ≡ drop a.taken (take (left v a + cond (enters x E) 1 0) (through M v tap a.offered))
      = ap₂ pushed st.output byte_read ∙ pushed_is M tap a.offered E v p (a.time + 1) x a.taken (left v a) l.0 l.1 b h.taken in
      record {
        time = ap (λ n. n + 1) st.time;
        come = ap₂ (λ n c. n + cond c 1 0) st.come (ap is_some w.bus_is) ∙ sym en.count;
        went = ap₂ (λ n c. n + cond c 1 0) st.went byte_told ∙ sym ls;
        input = en.rest_is;
        output = w.row (free_room free) ∙ (out ∙ ap (λ n. drop a.taken (take n (through M v tap a.offered))) (sym ls));
        fits = fits_new;
      }

  pub stands_advanced : stalled v p a ≡ false → StandsAt M tap v p new store' (t + 1) (come + cond (is_some bus) 1 0) (gone + cond (is_some byte) 1 0) (rest_of waiting first) ready' (after v p a Cycle)
  stands_advanced free = subst (StandsAt M tap v p new store' (t + 1) (come + cond (is_some bus) 1 0) (gone + cond (is_some byte) 1 0) (rest_of waiting first) ready') (sym (cond-false (stalled v p a) _ _ free)) (stands_next free)
