-- What is parked of a machine in which nothing is in flight.
use Rattle.std.proofs.Common.{◌≡◌, ℕ, ◌<◌, List, length, ◌∙◌, ap, subst, arith}
use Rattle.std.proofs.lemmas.List.{length-map}
use Rattle.pr_machine_account.specs.Account.{IsLawful, left}
use Rattle.pr_machine_account.proofs.AccountLaws.{lawful}
use Rattle.pr_conf.specs.Shape.{Shape}
use Rattle.pr_conf.specs.Configuration.{shape_of, pes_of}
use Rattle.pr_conf.specs.Through.{steps_of, tapped}
use Rattle.pr_conf.specs.After.{with_states, state_rows, conf_after}
use Rattle.pr_conf.proofs.AfterLaws.{with_states_after}
use Rattle.pr_machine.specs.declared.loaded.Loaded.{Loaded}
use Rattle.pr_machine.specs.declared.places.StripePlace.{StripePlace}
use Rattle.pr_machine.specs.Places.{spots_of, rows_of}
use Rattle.pr_machine.specs.Stands.{History, PartsStand, account_of}
use Rattle.pr_machine.specs.Emptying.{IsEmptied}
use Rattle.pr_machine.proofs.Events.{some_stages, some_stripes}
use Rattle.pr_machine.proofs.Emptied.{all_left, emptied_row}

module _ {N P : ℕ} (l : Loaded N P) (k : Shape) (p : ℕ) (h : History) (st : PartsStand l k p h) (even : l.entered ≡ l.left) (none : length l.buffers.input.waiting ≡ 0) where
  hv : 0 < length k.stages
  hv = some_stages l.conf k st.conf

  hp : 0 < p
  hp = some_stripes l p st.stripes

  is_lawful : IsLawful (length k.stages) p (account_of k p h)
  is_lawful = lawful (length k.stages) p h hv

  -- every sample that was offered has left
  pub all_is : left (length k.stages) (account_of k p h) ≡ length (account_of k p h).offered
  all_is = all_left (steps_of N P k) (tapped N k) (length k.stages) p (spots_of l.places.items) (rows_of l.buffers.store) l.plan.time l.entered l.left l.buffers.input.waiting l.buffers.output.waiting (account_of k p h) hp is_lawful st.parts even none

  row_is : (new : List (List ℕ)) (s : ℕ) → s < length k.stages → IsEmptied (length l.places.items) (spots_of l.places.items) s (rows_of l.buffers.store s) (rows_of new s)
      → rows_of new s ≡ state_rows N P k (account_of k p h).offered s
  row_is new s hs e =
      emptied_row (steps_of N P k) (tapped N k) (length k.stages) p (spots_of l.places.items) (rows_of l.buffers.store) l.plan.time l.entered l.left l.buffers.input.waiting l.buffers.output.waiting (account_of k p h) hp is_lawful st.parts even none s (rows_of new s) hs
      (subst (λ (q : ℕ). IsEmptied q (spots_of l.places.items) s (rows_of l.buffers.store s) (rows_of new s)) st.stripes e)

  stages_in : length k.stages ≡ length l.buffers.store
  stages_in =
      let n = ap (λ (x : Shape). length x.stages) st.conf in
      let m = length-map l.conf.stages.items (pes_of {N = N}) in
      omega (arith, l.rows, l.conf.stages.ok.0)

  -- the configuration after all samples
  pub parked_is : (places : List (StripePlace N P)) (new : List (List ℕ)) (now : Shape) → places ≡ l.places.items → now ≡ with_states (shape_of l.conf) (rows_of new)
      → ((s : ℕ) → s < length l.buffers.store → IsEmptied (length places) (spots_of places) s (rows_of l.buffers.store s) (rows_of new s))
      → now ≡ conf_after N P k (account_of k p h).offered
  parked_is places new now same shape rows =
      shape ∙ with_states_after N P k (shape_of l.conf) (rows_of new) (account_of k p h).offered st.conf
      (λ s hs. row_is new s hs (subst (λ (q : List (StripePlace N P)). IsEmptied (length q) (spots_of q) s (rows_of l.buffers.store s) (rows_of new s)) same (rows s (let n = stages_in in omega arith))))
