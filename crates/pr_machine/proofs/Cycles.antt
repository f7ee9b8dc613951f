-- What a cycle makes of a machine that stands for a history.
use Rattle.std.proofs.Common.{◌≡◌, ℕ, ◌+◌, ◌<◌, Bool, true, false, cond, ◌&&◌, eqb, List, [], ◌∷◌, ◌++◌, length, drop, take, refl, sym, ap, ap₂, ◌∙◌, subst, Option, Some, None, is_some, vec_len}
use Rattle.std.proofs.lemmas.Bool.{cond-true, cond-false}
use Rattle.std.proofs.lemmas.List.{take_at}
use Rattle.pr_control.specs.Time.{event, turned}
use Rattle.pr_machine_account.specs.Account.{Cycle, stalled}
use Rattle.pr_machine_account.specs.Replies.{Advanced, Stalled}
use Rattle.pr_conf.specs.declared.turns.Turn.{Turn}
use Rattle.pr_conf.specs.Shape.{Shape}
use Rattle.pr_conf.specs.Configuration.{shape_of}
use Rattle.pr_conf.specs.Through.{steps_of, tapped}
use Rattle.pr_machine_refines.specs.Stands.{IsStanding}
use Rattle.pr_machine_refines.specs.Cycle.{will_enter, will_leave, bus_of, rest_of, pushed, HasRoom, IsPass}
use Rattle.pr_machine_refines.proofs.HistoryLaws.{held_is, standing_held, standing_next, event_told, out_told, entered_told, left_told}
use Rattle.pr_machine.specs.declared.loaded.Loaded.{Loaded}
use Rattle.pr_machine.specs.declared.places.StripePlace.{StripePlace}
use Rattle.pr_machine.specs.declared.places.Schedule.{Schedule}
use Rattle.pr_stripe.specs.Rows.{entering as row_if}
use Rattle.pr_machine.specs.Places.{spots_of, rows_of}
use Rattle.pr_machine.specs.Schedules.{IsScheduled}
use Rattle.pr_machine.specs.Stands.{History, PartsStand, account_of, reply_of, cycle_reply, held_turn, next_turn, turn_of}
use Rattle.pr_machine.proofs.Events.{StandsWith, some_stages, some_stripes}
use Rattle.pr_machine.proofs.Stored.{stages_are, stripes_are}

-- what is written back into a vector
pub written : {X : Type 0} (n : ℕ) (xs ys : List X) → length xs ≡ n → take n (xs ++ drop (length xs) ys) ≡ xs
written n xs ys e = take_at xs (drop (length xs) ys) n e

pub is_some_row : (valid : Bool) (bytes : List ℕ) → is_some (row_if valid bytes) ≡ valid
is_some_row true bytes = refl
is_some_row false bytes = refl

abbrev made : Bool → Option (ℕ × ℕ) → Option ℕ → Option ℕ → Option ℕ → Turn
made a b c d e = record { advanced = a; configured = b; saved = c; entered = d; left = e }

same_turn : (t : Turn) (a : Bool) (b : Option (ℕ × ℕ)) (c d e : Option ℕ) → t.advanced ≡ a → t.configured ≡ b → t.saved ≡ c → t.entered ≡ d → t.left ≡ e → t ≡ made a b c d e
same_turn t a b c d e e1 e2 e3 e4 e5 =
    ap (λ x. made x t.configured t.saved t.entered t.left) e1
    ∙ (ap (λ x. made a x t.saved t.entered t.left) e2
    ∙ (ap (λ x. made a b x t.entered t.left) e3
    ∙ (ap (λ x. made a b c x t.left) e4
    ∙ ap (λ x. made a b c d x) e5)))

module _ {N P : ℕ} (l : Loaded N P) (k : Shape) (p : ℕ) (h : History) (st : PartsStand l k p h) where
  hv : 0 < length k.stages
  hv = some_stages l.conf k st.conf

  hp : 0 < p
  hp = some_stripes l p st.stripes

  pub held_parts : stalled (length k.stages) p (account_of k p h) ≡ true → StandsWith l k p (h ++ Cycle ∷ []) l.buffers.input.waiting l.buffers.output.waiting
  held_parts e = standing_held (steps_of N P k) (tapped N k) (length k.stages) p (spots_of l.places.items) (rows_of l.buffers.store) l.plan.time l.entered l.left l.buffers.input.waiting l.buffers.output.waiting h hv hp st.parts e

  pub turn_held : stalled (length k.stages) p (account_of k p h) ≡ true → held_turn ≡ turn_of (length k.stages) p (account_of k p h)
  turn_held e = sym (cond-true (stalled (length k.stages) p (account_of k p h)) held_turn (next_turn (length k.stages) p (account_of k p h)) e)

  pub turn_next : (t : Turn) → stalled (length k.stages) p (account_of k p h) ≡ false → t ≡ next_turn (length k.stages) p (account_of k p h) → t ≡ turn_of (length k.stages) p (account_of k p h)
  turn_next t e f = f ∙ sym (cond-false (stalled (length k.stages) p (account_of k p h)) held_turn (next_turn (length k.stages) p (account_of k p h)) e)

  pub reply_held : stalled (length k.stages) p (account_of k p h) ≡ true → Stalled ≡ reply_of N P k p h Cycle
  reply_held e = sym (ap (λ b. cond b Stalled Advanced) e)

  pub reply_next : (t : Turn) → stalled (length k.stages) p (account_of k p h) ≡ false → t ≡ next_turn (length k.stages) p (account_of k p h) → cycle_reply t.advanced ≡ reply_of N P k p h Cycle
  reply_next t e f = ap (λ (x : Turn). cycle_reply x.advanced) f ∙ sym (ap (λ b. cond b Stalled Advanced) e)

  module _ (schedule : Schedule) (planned : IsScheduled (vec_len l.conf.stages) (vec_len l.places) l.plan.time schedule) where
    here : IsScheduled (length k.stages) p l.plan.time schedule
    here = subst (λ v. IsScheduled v p l.plan.time schedule) (stages_are l k p h st 0) (subst (λ q. IsScheduled (vec_len l.conf.stages) q l.plan.time schedule) (stripes_are l k p h st 0) planned)

    pub held_told : (places : List (StripePlace N P)) (stages n r : ℕ) (entering : Bool) → places ≡ l.places.items → stages ≡ vec_len l.conf.stages → n ≡ length l.buffers.input.waiting → r ≡ length l.buffers.output.waiting → entering ≡ will_enter n schedule.first
        → (will_leave (length places) (spots_of places) (eqb stages 1) entering schedule.last && eqb r 16) ≡ stalled (length k.stages) p (account_of k p h)
    held_told places stages n r entering ep es en er ee =
        ap (λ ps. will_leave (length ps) (spots_of ps) (eqb stages 1) entering schedule.last && eqb r 16) ep
        ∙ (ap (λ m. will_leave (length l.places.items) (spots_of l.places.items) (eqb m 1) entering schedule.last && eqb r 16) (es ∙ stages_are l k p h st 0)
        ∙ (ap (λ e. will_leave (length l.places.items) (spots_of l.places.items) (eqb (length k.stages) 1) e schedule.last && eqb r 16) (ee ∙ ap (λ m. will_enter m schedule.first) en)
        ∙ (ap (λ m. will_leave (length l.places.items) (spots_of l.places.items) (eqb (length k.stages) 1) (will_enter (length l.buffers.input.waiting) schedule.first) schedule.last && eqb m 16) er
        ∙ (ap (λ q. will_leave q (spots_of l.places.items) (eqb (length k.stages) 1) (will_enter (length l.buffers.input.waiting) schedule.first) schedule.last && eqb (length l.buffers.output.waiting) 16) st.stripes
        ∙ held_is (steps_of N P k) (tapped N k) (length k.stages) p (spots_of l.places.items) (rows_of l.buffers.store) l.plan.time l.entered l.left l.buffers.input.waiting l.buffers.output.waiting h hv hp st.parts schedule.first schedule.last here.first here.last))))

    module _ (old new : List (StripePlace N P)) (store store' : List (List ℕ)) (ready' : List (List ℕ)) (brings : Option (ℕ × ℕ)) (entering left : Bool) (sample result : List ℕ) (out : Option ℕ)
        (old_is : old ≡ l.places.items) (store_is : store ≡ l.buffers.store) (brings_is : brings ≡ turned (event l.plan.stages l.plan.stripes l.plan.time)) (bus_is : row_if entering sample ≡ bus_of l.buffers.input.waiting schedule.first)
        (pass : IsPass (steps_of N P (shape_of l.conf)) (tapped N (shape_of l.conf)) (vec_len l.conf.stages) (length old) schedule.ring schedule.last brings (row_if entering sample) (spots_of old) (spots_of new) (rows_of store) (rows_of store') (row_if left result) out)
        (row : HasRoom l.buffers.output.waiting (row_if left result) → ready' ≡ pushed l.buffers.output.waiting (row_if left result)) where
      pass_here : IsPass (steps_of N P k) (tapped N k) (length k.stages) p schedule.ring schedule.last brings (row_if entering sample) (spots_of l.places.items) (spots_of new) (rows_of l.buffers.store) (rows_of store') (row_if left result) out
      pass_here =
          let p1 = subst (λ ps. IsPass (steps_of N P (shape_of l.conf)) (tapped N (shape_of l.conf)) (vec_len l.conf.stages) (length ps) schedule.ring schedule.last brings (row_if entering sample) (spots_of ps) (spots_of new) (rows_of store) (rows_of store') (row_if left result) out) old_is pass in
          let p2 = subst (λ rs. IsPass (steps_of N P (shape_of l.conf)) (tapped N (shape_of l.conf)) (vec_len l.conf.stages) (length l.places.items) schedule.ring schedule.last brings (row_if entering sample) (spots_of l.places.items) (spots_of new) (rows_of rs) (rows_of store') (row_if left result) out) store_is p1 in
          let p3 = subst (λ v. IsPass (steps_of N P (shape_of l.conf)) (tapped N (shape_of l.conf)) v (length l.places.items) schedule.ring schedule.last brings (row_if entering sample) (spots_of l.places.items) (spots_of new) (rows_of l.buffers.store) (rows_of store') (row_if left result) out) (stages_are l k p h st 0) p2 in
          let p4 = subst (λ q. IsPass (steps_of N P (shape_of l.conf)) (tapped N (shape_of l.conf)) (length k.stages) q schedule.ring schedule.last brings (row_if entering sample) (spots_of l.places.items) (spots_of new) (rows_of l.buffers.store) (rows_of store') (row_if left result) out) st.stripes p3 in
          subst (λ x. IsPass (steps_of N P x) (tapped N x) (length k.stages) p schedule.ring schedule.last brings (row_if entering sample) (spots_of l.places.items) (spots_of new) (rows_of l.buffers.store) (rows_of store') (row_if left result) out) st.conf p4

      brings_here : brings ≡ turned (event (length k.stages) p l.plan.time)
      brings_here = brings_is ∙ ap₂ (λ v q. turned (event v q l.plan.time)) (l.plan_stages ∙ stages_are l k p h st 0) (l.plan_stripes ∙ stripes_are l k p h st 0)

      pub next_parts : (entered' left' : ℕ) (waiting' : List (List ℕ)) → stalled (length k.stages) p (account_of k p h) ≡ false → entered' ≡ l.entered + cond entering 1 0 → left' ≡ l.left + cond left 1 0 → waiting' ≡ rest_of l.buffers.input.waiting schedule.first
          → IsStanding (steps_of N P k) (tapped N k) (length k.stages) p (spots_of new) (rows_of store') (l.plan.time + 1) entered' left' waiting' ready' (account_of k p (h ++ Cycle ∷ []))
      next_parts entered' left' waiting' free ee el ew =
          let a1 : l.entered + cond (is_some (row_if entering sample)) 1 0 ≡ entered' = ap (λ b. l.entered + cond b 1 0) (is_some_row entering sample) ∙ sym ee in
          let a2 : l.left + cond (is_some (row_if left result)) 1 0 ≡ left' = ap (λ b. l.left + cond b 1 0) (is_some_row left result) ∙ sym el in
          let base = standing_next (steps_of N P k) (tapped N k) (length k.stages) p (spots_of l.places.items) (rows_of l.buffers.store) l.plan.time l.entered l.left l.buffers.input.waiting l.buffers.output.waiting h hv hp st.parts
          (spots_of new) (rows_of store') ready' schedule.first schedule.last schedule.ring brings (row_if entering sample) (row_if left result) out here.first here.last here.ring brings_here bus_is pass_here row free in
          let b1 = subst (λ e. IsStanding (steps_of N P k) (tapped N k) (length k.stages) p (spots_of new) (rows_of store') (l.plan.time + 1) e (l.left + cond (is_some (row_if left result)) 1 0) (rest_of l.buffers.input.waiting schedule.first) ready' (account_of k p (h ++ Cycle ∷ []))) a1 base in
          let b2 = subst (λ e. IsStanding (steps_of N P k) (tapped N k) (length k.stages) p (spots_of new) (rows_of store') (l.plan.time + 1) entered' e (rest_of l.buffers.input.waiting schedule.first) ready' (account_of k p (h ++ Cycle ∷ []))) a2 b1 in
          subst (λ w. IsStanding (steps_of N P k) (tapped N k) (length k.stages) p (spots_of new) (rows_of store') (l.plan.time + 1) entered' left' w ready' (account_of k p (h ++ Cycle ∷ []))) (sym ew) b2

      pub turn_told : (t : Turn) → t.advanced ≡ true → t.configured ≡ turned brings → t.saved ≡ out → t.entered ≡ cond entering (Some l.entered) None → t.left ≡ cond left (Some l.left) None → t ≡ next_turn (length k.stages) p (account_of k p h)
      turn_told t e1 e2 e3 e4 e5 =
          let M = steps_of N P k in
          let f2 = e2 ∙ event_told M (tapped N k) (length k.stages) p (spots_of l.places.items) (rows_of l.buffers.store) l.plan.time l.entered l.left l.buffers.input.waiting l.buffers.output.waiting h hv hp st.parts
          (spots_of new) (rows_of store') ready' schedule.first schedule.last schedule.ring brings (row_if entering sample) (row_if left result) out here.first here.last here.ring brings_here bus_is pass_here row in
          let f3 = e3 ∙ out_told M (tapped N k) (length k.stages) p (spots_of l.places.items) (rows_of l.buffers.store) l.plan.time l.entered l.left l.buffers.input.waiting l.buffers.output.waiting h hv hp st.parts
          (spots_of new) (rows_of store') ready' schedule.first schedule.last schedule.ring brings (row_if entering sample) (row_if left result) out here.first here.last here.ring brings_here bus_is pass_here row in
          let f4 = e4 ∙ entered_told M (tapped N k) (length k.stages) p (spots_of l.places.items) (rows_of l.buffers.store) l.plan.time l.entered l.left l.buffers.input.waiting l.buffers.output.waiting h hv hp st.parts
          (spots_of new) (rows_of store') ready' schedule.first schedule.last schedule.ring brings (row_if entering sample) (row_if left result) out here.first here.last here.ring brings_here bus_is pass_here row entering (is_some_row entering sample) in
          let f5 = e5 ∙ left_told M (tapped N k) (length k.stages) p (spots_of l.places.items) (rows_of l.buffers.store) l.plan.time l.entered l.left l.buffers.input.waiting l.buffers.output.waiting h hv hp st.parts
          (spots_of new) (rows_of store') ready' schedule.first schedule.last schedule.ring brings (row_if entering sample) (row_if left result) out here.first here.last here.ring brings_here bus_is pass_here row left (is_some_row left result) in
          same_turn t true _ _ _ _ e1 f2 f3 f4 f5

      pub next_machine : (new' : List (StripePlace N P)) (store'' : List (List ℕ)) (time' entered' left' : ℕ) (waiting' : List (List ℕ)) → stalled (length k.stages) p (account_of k p h) ≡ false → new' ≡ new → store'' ≡ store' → time' ≡ l.plan.time + 1
          → entered' ≡ l.entered + cond entering 1 0 → left' ≡ l.left + cond left 1 0 → waiting' ≡ rest_of l.buffers.input.waiting schedule.first
          → IsStanding (steps_of N P k) (tapped N k) (length k.stages) p (spots_of new') (rows_of store'') time' entered' left' waiting' ready' (account_of k p (h ++ Cycle ∷ []))
      next_machine new' store'' time' entered' left' waiting' free en es et ee el ew =
          let base = next_parts entered' left' waiting' free ee el ew in
          let b1 = subst (λ n. IsStanding (steps_of N P k) (tapped N k) (length k.stages) p (spots_of n) (rows_of store') (l.plan.time + 1) entered' left' waiting' ready' (account_of k p (h ++ Cycle ∷ []))) (sym en) base in
          let b2 = subst (λ n. IsStanding (steps_of N P k) (tapped N k) (length k.stages) p (spots_of new') (rows_of n) (l.plan.time + 1) entered' left' waiting' ready' (account_of k p (h ++ Cycle ∷ []))) (sym es) b1 in
          subst (λ n. IsStanding (steps_of N P k) (tapped N k) (length k.stages) p (spots_of new') (rows_of store'') n entered' left' waiting' ready' (account_of k p (h ++ Cycle ∷ []))) (sym et) b2
