-- Hold units, one equation after the other.
use Rattle.std.proofs.Common.{◌≡◌, ◌<◌, ◌≤◌, ℕ, zero, suc, ◌+◌, ◌&&◌, Bool, true, false, Some, List, [], ◌∷◌, ◌++◌, length, drop, get_or, refl, sym, ap, ◌∙◌, arith, append_assoc}
use Rattle.std.specs.Bool.{if◌then◌else◌}
use Rattle.std.specs.List.{slice_get}
use Rattle.std.proofs.lemmas.Bool.{and_parts}
use Rattle.std.proofs.lemmas.List.{append-nil}
use Rattle.std.proofs.lemmas.Option.{slice_get_within}
use Rattle.pr_flat.specs.declared.equations.Operand.{Operand}
use Rattle.pr_flat.specs.Shape.{EquationShape}
use Rattle.pr_flat.specs.Facts.{is_rec}
use Rattle.pr_cut_units.specs.Reached.{hold_count}
use Rattle.pr_cut_units.specs.Groups.{Holds}
use Rattle.pr_cut_units.specs.Equations.{UnitPlan, plan_of, hold_unit}
use Rattle.pr_cut_units.specs.Nets.{holds_from}
use Rattle.pr_cut_plan.specs.declared.plans.CutPlan.{CutPlan}
use Rattle.pr_cut_plan.specs.Plans.{IsPlanOf}

abbrev some_holds : Bool → ℕ → ℕ → List Holds
some_holds some first count = if some then record { first = first; count = count } ∷ [] else []

holds_step : (plan : UnitPlan) (k : ℕ) (es : List EquationShape) (flags : List Bool) (i : ℕ) (e : EquationShape) → slice_get es i ≡ Some e → i < length flags
    → holds_from plan (k + i) (drop i es) (drop i flags) ≡ some_holds (get_or flags i false && is_rec e.op) (hold_unit plan (k + i)) (hold_count plan.equations (k + i)) ++ holds_from plan (k + (i + 1)) (drop (i + 1) es) (drop (i + 1) flags)
holds_step plan k [] flags i e there l = cc
holds_step plan k (d ∷ es) [] i e there l = absurd (omega (arith, l))
holds_step plan k (d ∷ es) (b ∷ flags) zero e there l =
    let same : d ≡ e = cc in
    let z : suc (k + 0) ≡ k + (0 + 1) = omega arith in
    by (b && is_rec d.op)
    ∙ ap (λ (x : EquationShape). some_holds (b && is_rec x.op) (hold_unit plan (k + 0)) (hold_count plan.equations (k + 0)) ++ holds_from plan (suc (k + 0)) es flags) same
    ∙ ap (λ (n : ℕ). some_holds (b && is_rec e.op) (hold_unit plan (k + 0)) (hold_count plan.equations (k + 0)) ++ holds_from plan n es flags) z
  where
    by : (t : Bool) → (if t then record { first = hold_unit plan (k + 0); count = hold_count plan.equations (k + 0) } ∷ holds_from plan (suc (k + 0)) es flags else holds_from plan (suc (k + 0)) es flags) ≡ some_holds (t) (hold_unit plan (k + 0)) (hold_count plan.equations (k + 0)) ++ holds_from plan (suc (k + 0)) es flags
    by true = refl
    by false = refl
holds_step plan k (d ∷ es) (b ∷ flags) (suc i) e there l =
    let z : k + suc i ≡ suc k + i = omega arith in
    let y : suc k + (i + 1) ≡ k + (suc i + 1) = omega arith in
    let x : suc i + 1 ≡ suc (i + 1) = omega arith in
    ap (λ (n : ℕ). holds_from plan n (drop i es) (drop i flags)) z
    ∙ holds_step plan (suc k) es flags i e there (omega (arith, l))
    ∙ ap (λ (n : ℕ). some_holds (get_or flags i false && is_rec e.op) (hold_unit plan n) (hold_count plan.equations n) ++ holds_from plan (suc k + (i + 1)) (drop (i + 1) es) (drop (i + 1) flags)) (sym z)
    ∙ ap (λ (n : ℕ). some_holds (get_or flags i false && is_rec e.op) (hold_unit plan (k + suc i)) (hold_count plan.equations (k + suc i)) ++ holds_from plan n (drop (i + 1) es) (drop (i + 1) flags)) y
    ∙ ap (λ (n : ℕ). some_holds (get_or flags i false && is_rec e.op) (hold_unit plan (k + suc i)) (hold_count plan.equations (k + suc i)) ++ holds_from plan (k + (suc i + 1)) (drop n (d ∷ es)) (drop n (b ∷ flags))) (sym x)

-- one equation more, where the plan's tables have its hold units
pub holds_next : (known : CutPlan) (equations : List EquationShape) (widths : List ℕ) (outputs : List Operand) (i first count : ℕ) (e : EquationShape) (some : Bool) (now next whole : List Holds) → IsPlanOf known equations widths outputs → slice_get equations i ≡ Some e → first ≡ get_or known.hold_units.items i 0 → count ≡ get_or known.hold_counts.items i 0 → length known.reached.items ≡ length equations
    → some ≡ (get_or known.reached.items i false && is_rec e.op) → next ≡ now ++ some_holds (some) (first) (count)
    → now ++ holds_from (plan_of equations widths outputs) i (drop i equations) (drop i known.reached.items) ≡ whole → next ++ holds_from (plan_of equations widths outputs) (i + 1) (drop (i + 1) equations) (drop (i + 1) known.reached.items) ≡ whole
holds_next known equations widths outputs i first count e some now next whole p there at of long is step was =
    let plan = plan_of equations widths outputs in
    let flags = known.reached.items in
    let l = slice_get_within equations i e there in
    let z : 0 + i ≡ i = omega arith in
    let y : 0 + (i + 1) ≡ i + 1 = omega arith in
    let rest = holds_from plan (i + 1) (drop (i + 1) equations) (drop (i + 1) flags) in
    ap (λ (xs : List Holds). xs ++ rest) step
    ∙ append_assoc now (some_holds some first count) rest
    ∙ ap (λ (xs : List Holds). now ++ (xs ++ rest)) (same some is)
    ∙ ap (λ (t : Bool). now ++ (some_holds (t) (hold_unit plan i) (hold_count equations i) ++ rest)) is
    ∙ ap (λ (n : ℕ). now ++ (some_holds (get_or flags i false && is_rec e.op) (hold_unit plan n) (hold_count equations n) ++ rest)) (sym z)
    ∙ ap (λ (n : ℕ). now ++ (some_holds (get_or flags i false && is_rec e.op) (hold_unit plan (0 + i)) (hold_count equations (0 + i)) ++ holds_from plan n (drop (i + 1) equations) (drop (i + 1) flags))) (sym y)
    ∙ ap (λ (xs : List Holds). now ++ xs) (sym (holds_step plan 0 equations flags i e there (omega (arith, l, long))))
    ∙ ap (λ (n : ℕ). now ++ holds_from plan n (drop i equations) (drop i flags)) z
    ∙ was
  where
    same : (t : Bool) → t ≡ (get_or known.reached.items i false && is_rec e.op) → some_holds (t) (first) (count) ≡ some_holds (t) (hold_unit (plan_of equations widths outputs) i) (hold_count equations i)
    same false q = refl
    same true q =
        let rec = (and_parts (get_or known.reached.items i false) (is_rec e.op) (sym q)).1 in
        let f : first ≡ hold_unit (plan_of equations widths outputs) i = at ∙ p.firsts i (slice_get_within equations i e there) in
        let c : count ≡ hold_count equations i = of ∙ p.counts i e there rec in
        ap (λ (n : ℕ). some_holds true n count) f ∙ ap (λ (n : ℕ). some_holds true (hold_unit (plan_of equations widths outputs) i) n) c

pub holds_last : (plan : UnitPlan) (i : ℕ) (es : List EquationShape) (flags : List Bool) (all whole : List Holds) → length es ≤ i → all ++ holds_from plan i (drop i es) (drop i flags) ≡ whole → all ≡ whole
holds_last plan i es flags all whole l h = sym (ap (λ (xs : List Holds). all ++ xs) (none i es flags i l) ∙ append-nil all) ∙ h
  where
    empty : (k : ℕ) (xs : List EquationShape) → holds_from plan k xs [] ≡ []
    empty k [] = refl
    empty k (x ∷ xs) = refl

    none : (k : ℕ) (es : List EquationShape) (flags : List Bool) (i : ℕ) → length es ≤ i → holds_from plan k (drop i es) (drop i flags) ≡ []
    none k [] flags zero l = refl
    none k [] flags (suc i) l = refl
    none k (e ∷ es) flags zero l = absurd (omega (arith, l))
    none k (e ∷ es) [] (suc i) l = empty k (drop i es)
    none k (e ∷ es) (b ∷ flags) (suc i) l = none k es flags i (omega (arith, l))
