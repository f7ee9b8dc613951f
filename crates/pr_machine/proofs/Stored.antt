-- What the store tells of a stage.
use Rattle.std.proofs.Common.{◌≡◌, ℕ, ◌<◌, ◌≤◌, Bool, true, false, List, [], length, sym, ap, ◌∙◌, subst, arith, inl, inr, Some, None, slice_get, vec_len}
use Rattle.std.proofs.lemmas.List.{length-map}
use Rattle.std.proofs.lemmas.Option.{get_or_from_slice_get}
use Rattle.pr_control.specs.Time.{IsResident}
use Rattle.pr_control.specs.Residents.{Resides}
use Rattle.pr_control.proofs.ResidentLaws.{occupant_resides, resides_occupant, resides_inside}
use Rattle.pr_conf.specs.Shape.{Shape}
use Rattle.pr_conf.specs.Configuration.{pes_of}
use Rattle.pr_machine.specs.declared.loaded.Loaded.{Loaded}
use Rattle.pr_machine.specs.Stands.{History, PartsStand, account_of, IsStored}
use Rattle.pr_machine.proofs.Events.{some_stripes}

module _ {N P : ℕ} (l : Loaded N P) (k : Shape) (p : ℕ) (h : History) (st : PartsStand l k p h) (s : ℕ) where
  -- the plan's numbers are the history's
  pub stages_are : vec_len l.conf.stages ≡ length k.stages
  stages_are = let n = ap (λ (x : Shape). length x.stages) st.conf in let m = length-map l.conf.stages.items (pes_of {N = N}) in omega (arith, l.conf.stages.ok.0)

  pub stripes_are : vec_len l.places ≡ p
  stripes_are = omega (arith, l.places.ok.0, st.stripes)

  resident_here : (b : Bool) → IsResident l.plan.stages l.plan.stripes l.plan.time s b → IsResident (length k.stages) p (account_of k p h).time s b
  resident_here b r =
      subst (λ v. IsResident v p (account_of k p h).time s b) (l.plan_stages ∙ stages_are)
      (subst (λ q. IsResident l.plan.stages q (account_of k p h).time s b) (l.plan_stripes ∙ stripes_are)
      (subst (λ t. IsResident l.plan.stages l.plan.stripes t s b) st.parts.time r))

  pub stored_past : vec_len l.conf.stages ≤ s → IsStored N P k p (account_of k p h) s None
  stored_past e = inl (omega (arith, stages_are))

  pub stored_held : IsResident l.plan.stages l.plan.stripes l.plan.time s true → IsStored N P k p (account_of k p h) s None
  stored_held r = let w = resident_here true r in inr (w.0, occupant_resides (length k.stages) p w.0 (account_of k p h).time s w.2)

  pub stored_row : (row : List ℕ) → s < vec_len l.conf.stages → IsResident l.plan.stages l.plan.stripes l.plan.time s false → slice_get l.buffers.store s ≡ Some row → IsStored N P k p (account_of k p h) s (Some row)
  stored_row row e r g =
      let hs : s < length k.stages = omega (arith, stages_are) in
      let away = λ (i : ℕ) (q : Resides (length k.stages) p (account_of k p h).time s i).
      resident_here false r i (resides_inside (length k.stages) p (account_of k p h).time s i (some_stripes l p st.stripes) q).1 (resides_occupant (length k.stages) p i (account_of k p h).time s q) in
      (hs, away, sym (get_or_from_slice_get l.buffers.store s row [] g) ∙ st.parts.away s hs away)
