-- The stage that a cycle saves, and its state row in the store after the cycle.
use Rattle.std.proofs.Common.{◌≡◌, ℕ, ◌+◌, ◌-◌, ◌<◌, ◌%◌, ◌&&◌, Bool, true, false, cond, leb, Option, Some, None, refl, sym, ap, ap₂, ◌∙◌, subst, arith, inl, inr}
use Rattle.std.proofs.lemmas.Bool.{cases_lt, cases_eq, cases_Bool, lt-ltb, le-ltb, false≢true}
use Rattle.pr_control.specs.Time.{event, occupant, spares, turn}
use Rattle.pr_control.specs.Residents.{Resides}
use Rattle.pr_control.proofs.TimeLaws.{event_ring, event_line, event_over, occupant_hit, occupant_other}
use Rattle.pr_control.proofs.Residence.{evicted, evicted_none, evicted_line, alone, absent, active, some_same}
use Rattle.pr_control.proofs.ResidentLaws.{resides_occupant, resides_inside, occupant_resides}
use Rattle.pr_machine_account.specs.Account.{Account, below, enters, done, entered, IsLawful}
use Rattle.pr_machine_account.proofs.AccountLaws.{done_below, done_step, lawful_entered, entered_below}
use Rattle.pr_machine_refines.specs.Cycle.{evicted_stage}
use Rattle.pr_run_script.specs.Text.{found_by, found_stage}

-- which stage a cycle's event finds in its stripe, by arithmetic alone
pub found_is : (v p t : ℕ) → 0 < p → found_stage v p t ≡ evicted_stage v p t
found_is v p t hp = elim (cases_lt p v) [
  | inl more ↦ (
      let a = lt-ltb p v more in
      ap (found_by v p t) (event_ring v p t more) ∙ elim (cases_lt t p) [
        | inl early ↦ evicted_none v p t more hp early ∙ sym (let l : leb p t ≡ false = grind arith in ap₂ (λ (x y : Bool). cond (x && y) (Some ((t - p) % v)) None) a l)
        | inr late ↦ evicted v p t more hp late ∙ sym (let l : leb p t ≡ true = grind arith in ap₂ (λ (x y : Bool). cond (x && y) (Some ((t - p) % v)) None) a l)
      ])
  | inr fewer ↦ (
      let a = le-ltb p v fewer in
      let none : evicted_stage v p t ≡ None = ap (λ (x : Bool). cond (x && leb p t) (Some ((t - p) % v)) None) a in
      elim (cases_lt t v) [
        | inl early ↦ ap (found_by v p t) (event_line v p t fewer early) ∙ (evicted_line v p t fewer ∙ sym none)
        | inr late ↦ ap (found_by v p t) (event_over v p t fewer late) ∙ sym none
      ])
]

-- the event that found a stage
pub record IsFound (v p t s : ℕ) : Type 0 where
  pub stage : ℕ
  pub stripe : ℕ
  pub brings : event v p t ≡ Some (stage, stripe)
  pub found : occupant v p stripe t ≡ Some s

found_event : (v p t s : ℕ) (o : Option (ℕ × ℕ)) → event v p t ≡ o → found_by v p t o ≡ Some s → IsFound v p t s
found_event v p t s None e h = absurd (cc)
found_event v p t s (Some (m, q)) e h = record { stage = m; stripe = q; brings = e; found = h }

pub found_by_event : (v p t s : ℕ) → found_stage v p t ≡ Some s → IsFound v p t s
found_by_event v p t s h = found_event v p t s (event v p t) refl h

-- the stage that was found computes no more
found_idle : (v p t s : ℕ) → 0 < v → 0 < p → IsFound v p t s → turn v p (t - s) ≡ false
found_idle v p t s hv hp f = elim (cases_Bool (turn v p (t - s))) [
  | inr idle ↦ idle
  | inl computes ↦ (
      let r = resides_inside v p t s f.stripe hp (occupant_resides v p f.stripe t s f.found) in
      let a = active v p t s hp r.0 computes in
      let same : a.0 ≡ f.stripe = alone v p a.0 f.stripe t s a.1 r.1 a.2 f.found in
      absurd (let P : Option (ℕ × ℕ) → Type 0 = λ o. spares o a.0 in subst P f.brings a.3 same))
]

-- after the cycle it is in no stripe
pub found_away : (v p t s i : ℕ) → 0 < v → 0 < p → IsFound v p t s → Resides v p (t + 1) s i → ⊥
found_away v p t s i hv hp f h =
    let r = resides_inside v p t s f.stripe hp (occupant_resides v p f.stripe t s f.found) in
    let o = resides_occupant v p i (t + 1) s h in
    elim (cases_eq i f.stripe) [
      | inl same ↦ (
          let m : f.stage ≡ s = some_same f.stage s (sym (occupant_hit v p i t f.stage f.stripe f.brings same) ∙ o) in
          absent v p f.stripe t f.stage f.stripe r.1 f.brings (f.found ∙ ap (λ (x : ℕ). Some x) (sym m)))
      | inr other ↦ (
          let now : occupant v p i t ≡ Some s = sym (occupant_other v p i t f.stage f.stripe f.brings other) ∙ o in
          let j = resides_inside v p t s i hp (occupant_resides v p i t s now) in
          other (alone v p i f.stripe t s j.1 r.1 now f.found))
    ]

-- and it has done after the cycle what it had done before it
pub found_done : {R : Type 0} (v p s : ℕ) (a : Account R) → 0 < v → 0 < p → IsLawful v p a → IsFound v p a.time s → done s (a.time + 1) (entered v p a) ≡ done s a.time a.entries
found_done v p s a hv hp l f =
    let w = lawful_entered v p a l in
    let x = a.time - s in
    let idle = found_idle v p a.time s hv hp f in
    let none : enters x (entered v p a) ≡ false = elim (cases_Bool (enters x (entered v p a))) [
      | inr never ↦ never
      | inl some ↦ absurd (false≢true (sym idle ∙ w.0.turns x some))
    ] in
    let step = done_step v p (a.time + 1) a.time s (entered v p a) w.0 in
    let z : below x (entered v p a) + cond {A = ℕ} (enters x (entered v p a)) 1 0 ≡ below x (entered v p a) = (let c = ap (λ b. cond {A = ℕ} b 1 0) none in omega arith) in
    done_below s (a.time + 1) (entered v p a) ∙ (step ∙ (z ∙ (entered_below v p a x (omega arith) ∙ sym (done_below s a.time a.entries))))
