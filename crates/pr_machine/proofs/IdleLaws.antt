-- Places without a stage, which no cycle changes.
use Rattle.std.proofs.Common.{◌≡◌, ℕ, ◌+◌, ◌-◌, ◌<◌, ◌≤◌, ◌==◌, ◌++◌, if◌then◌else◌, true, false, Option, Some, None, IfSome, is_none, List, length, take, drop, refl, sym, ap, ◌∙◌, subst, arith, inl, inr}
use Rattle.std.proofs.lemmas.Bool.{cases_eq, cases_lt}
use Rattle.std.proofs.lemmas.Bool.Decides.{nat_tests}
use Rattle.std.proofs.Math.Seq.{get_or-append_right}
use Rattle.std.proofs.lemmas.List.{get_or_append_left, get_or-drop, get_or-take, get_or_past}
use Rattle.pr_conf_pipeline.specs.Rows.{Step}
use Rattle.pr_control.specs.Time.{before, turned, IsInside}
use Rattle.pr_machine_refines.specs.Spots.{Spot, Bare, Held, Gone, shows, stage_in, stepped}
use Rattle.pr_machine_refines.specs.Cycle.{AreStepped, IsRingStep, IsLineStep, IsTurned, IsPass}
use Rattle.pr_machine.specs.declared.places.StripePlace.{StripePlace}
use Rattle.pr_machine.specs.declared.places.StripePlace.TheVariants as V
use Rattle.pr_machine.specs.Places.{seen, place_at, spots_of, AreIdle, IsHere, AreHere}

stepped_idle : {S R : Type 0} (M : ℕ → Step S R) (bus : Option R) (spot : Spot S R) (b : Option R) → is_none (stage_in spot) ≡ true → stepped M bus spot b ≡ spot
stepped_idle M bus (Bare row) b h = refl
stepped_idle M bus (Held s st row) b h = absurd (let z = h in cc)
stepped_idle M bus Gone b h = refl

stage_stepped : {S R : Type 0} (M : ℕ → Step S R) (bus : Option R) (spot : Spot S R) (b : Option R) → stage_in (stepped M bus spot b) ≡ stage_in spot
stage_stepped M bus (Bare row) b = refl
stage_stepped M bus (Held s st row) b = refl
stage_stepped M bus Gone b = refl

-- no stripe has a stage
pub line_idle : {S R : Type 0} (M : ℕ → Step S R) (bus : Option R) (p : ℕ) (old : ℕ → Spot S R) → ((i : ℕ) → 0 ≤ i → is_none (stage_in (old i)) ≡ true) → IsLineStep M bus p old old
line_idle M bus p old idle = record {
  step = λ i l ne. sym (stepped_idle M bus (old i) (shows (old (before p i))) (idle i (omega arith)));
  first = sym (stepped_idle M bus (old 0) (shows (old (p - 1))) (idle 0 (omega arith)));
}

not_first : (i : ℕ) → (i ≡ 0 → ⊥) → (i == 0) ≡ false
not_first i ne = grind (arith, nat_tests)

before_is : (n i : ℕ) → (i ≡ 0 → ⊥) → before n i ≡ i - 1
before_is n i ne = ap (λ b. if b then n - 1 else i - 1) (not_first i ne)

module _ {N P : ℕ} (M : ℕ → Step (List ℕ) (List ℕ)) (bus : Option (List ℕ)) (p live : ℕ) (old ring mid new : List (StripePlace N P)) (lo : length old ≡ p) (most : live ≤ p) (some : 0 < live) (lr : length ring ≡ live) (is : mid ≡ ring ++ drop live old) where
  front : (i : ℕ) → i < live → place_at mid i ≡ place_at ring i
  front i h = ap (λ xs. place_at xs i) is ∙ get_or_append_left ring (drop live old) V.Away i (omega arith)

  behind : (i : ℕ) → live ≤ i → place_at mid i ≡ place_at old i
  behind i h =
      let e : live + (i - length ring) ≡ i = omega arith in
      ap (λ xs. place_at xs i) is ∙ get_or-append_right ring (drop live old) i V.Away (omega arith) ∙ get_or-drop live old (i - length ring) V.Away ∙ ap (place_at old) e

  was : (i : ℕ) → i < live → place_at (take live old) i ≡ place_at old i
  was i h = get_or-take live old i V.Away h

  inside : (i : ℕ) → i < live → (i ≡ 0 → ⊥) → stepped M bus (spots_of (take live old) i) (shows (spots_of (take live old) (before live i))) ≡ stepped M bus (spots_of old i) (shows (spots_of old (before p i)))
  inside i h ne =
      ap (λ x. stepped M bus (seen x) (shows (spots_of (take live old) (before live i)))) (was i h)
      ∙ ap (λ j. stepped M bus (spots_of old i) (shows (spots_of (take live old) j))) (before_is live i ne)
      ∙ ap (λ x. stepped M bus (spots_of old i) (shows (seen x))) (was (i - 1) (omega arith))
      ∙ ap (λ j. stepped M bus (spots_of old i) (shows (spots_of old j))) (sym (before_is p i ne))

  -- the first places have computed, and the others have no stage
  pub line_step : 2 ≤ p → AreIdle live (spots_of old) → IsRingStep M bus live 0 (spots_of (take live old)) (spots_of ring) → ((j : ℕ) → (j ≡ 0 → ⊥) → place_at new j ≡ place_at mid j)
      → length mid ≡ p → spots_of new 0 ≡ stepped M bus (spots_of mid 0) (shows (spots_of mid (length mid - 1))) → IsLineStep M bus p (spots_of old) (spots_of new)
  line_step two idle stepped_ring others lm step = record {
    step = λ i l ne. elim (cases_lt i live) as (λ _. spots_of new i ≡ stepped M bus (spots_of old i) (shows (spots_of old (before p i)))) [
      | inl h ↦ ap seen (others i ne ∙ front i h) ∙ stepped_ring.step i h ne ∙ inside i h ne
      | inr h ↦ ap seen (others i ne ∙ behind i h) ∙ sym (stepped_idle M bus (spots_of old i) (shows (spots_of old (before p i))) (idle i h))
    ];
    first = step ∙ ap (λ n. stepped M bus (spots_of mid 0) (shows (spots_of mid (n - 1)))) lm ∙ ap (λ x. stepped M bus x (shows (spots_of mid (p - 1)))) (ap seen (front 0 some) ∙ stepped_ring.kept ∙ ap seen (was 0 some))
        ∙ ap (λ x. stepped M bus (spots_of old 0) (shows x)) (sym (ap seen (others (p - 1) (λ e. omega arith))));
  }

  -- every place is here still
  pub line_here : (n : ℕ) → AreHere n old → AreHere n ring → length new ≡ p → ((j : ℕ) → (j ≡ 0 → ⊥) → place_at new j ≡ place_at mid j) → IsHere n (place_at new 0) → AreHere n new
  line_here n all all_ring ln others at i l = elim (cases_eq i 0) as (λ _. IsHere n (place_at new i)) [
    | inl e ↦ subst (λ j. IsHere n (place_at new j)) (sym e) at
    | inr ne ↦ elim (cases_lt i live) as (λ _. IsHere n (place_at new i)) [
      | inl h ↦ subst (IsHere n) (sym (others i ne ∙ front i h)) (all_ring i (omega arith))
      | inr h ↦ subst (IsHere n) (sym (others i ne ∙ behind i h)) (all i (omega arith))
    ]
  ]

stages_kept : {S R : Type 0} (M : ℕ → Step S R) (bus : Option R) (p : ℕ) (ring : Option ℕ) (old mid : ℕ → Spot S R) → AreStepped M bus p ring old mid → (i : ℕ) → i < p → stage_in (mid i) ≡ stage_in (old i)
stages_kept M bus p None old mid h i l = elim (cases_eq i 0) as (λ _. stage_in (mid i) ≡ stage_in (old i)) [
  | inl e ↦ ap (λ j. stage_in (mid j)) e ∙ ap stage_in h.first ∙ stage_stepped M bus (old 0) (shows (mid (p - 1))) ∙ ap (λ j. stage_in (old j)) (sym e)
  | inr ne ↦ ap stage_in (h.step i l ne) ∙ stage_stepped M bus (old i) (shows (old (before p i)))
]
stages_kept M bus p (Some q) old mid h i l = elim (cases_eq i q) as (λ _. stage_in (mid i) ≡ stage_in (old i)) [
  | inl e ↦ ap (λ j. stage_in (mid j)) e ∙ ap stage_in h.kept ∙ ap (λ j. stage_in (old j)) (sym e)
  | inr ne ↦ ap stage_in (h.step i l ne) ∙ stage_stepped M bus (old i) (shows (old (before p i)))
]

others_kept : {S R : Type 0} (v live : ℕ) (brings : Option (ℕ × ℕ)) (mid new : ℕ → Spot S R) (store store' : ℕ → S) → IsTurned v (turned brings) mid new store store' → IfSome brings (λ e. e.0 < live) → (i : ℕ) → live ≤ i → new i ≡ mid i
others_kept v live None mid new store store' h below i l = h.spots i
others_kept v live (Some e) mid new store store' h below i l = h.others i (λ same. omega arith)

-- a cycle leaves places without a stage as they are, but for that of its event
pub idle_after : {N P : ℕ} {B : Type 0} (M : ℕ → Step (List ℕ) (List ℕ)) (tap : List ℕ → B) (v p : ℕ) (ring last : Option ℕ) (brings : Option (ℕ × ℕ)) (bus : Option (List ℕ)) (old new : List (StripePlace N P)) (store store' : ℕ → List ℕ) (byte : Option B) (out : Option ℕ) (live live' : ℕ)
    → IsPass M tap v p ring last brings bus (spots_of old) (spots_of new) store store' byte out → length new ≡ p → AreIdle live (spots_of old) → live ≤ live' → IfSome brings (λ e. e.0 < live') → AreIdle live' (spots_of new)
idle_after M tap v p ring last brings bus old new store store' byte out live live' h ln idle more below i l = elim (cases_lt i p) as (λ _. is_none (stage_in (spots_of new i)) ≡ true) [
  | inl lt ↦ ap (λ x. is_none (stage_in x)) (others_kept v live' brings h.mid (spots_of new) store store' h.event below i l) ∙ ap is_none (stages_kept M bus p ring (spots_of old) h.mid h.computed i lt) ∙ idle i (omega arith)
  | inr ge ↦ ap (λ x. is_none (stage_in (seen x))) (get_or_past new i V.Away (omega arith))
]

-- at the start no stripe has a stage
pub idle_start : {N P : ℕ} (places : List (StripePlace N P)) → ((i : ℕ) → i < length places → seen (place_at places i) ≡ Bare None) → AreIdle 0 (spots_of places)
idle_start places bare i l = elim (cases_lt i (length places)) as (λ _. is_none (stage_in (spots_of places i)) ≡ true) [
  | inl lt ↦ ap (λ x. is_none (stage_in x)) (bare i lt)
  | inr ge ↦ ap (λ x. is_none (stage_in (seen x))) (get_or_past places i V.Away ge)
]

pub inside_first : (v p : ℕ) (e : Option (ℕ × ℕ)) → IsInside v p e → IfSome e (λ x. x.0 < p)
inside_first v p None h = tt
inside_first v p (Some x) h = h.0
