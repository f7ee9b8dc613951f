-- Operators one after the other, and what is told of a text.
use Rattle.std.proofs.Common.{◌≡◌, ◌∙◌, ◌+◌, ℕ, Bool, true, false, Option, None, Some, List, [], fold, map, refl, ap, sym, subst, arith}
use Rattle.std.specs.Prelude.{IfNone, IsTrue, IsFalse}
use Rattle.std.specs.List.{range_with_len}
use Rattle.std.proofs.lemmas.List.FromFn.{map-range_with_len_more}
use Rattle.std.proofs.lemmas.List.Sums.{fold_push}
use Rattle.pr_base.specs.declared.caps.Cap.{Cap}
use Rattle.pr_lang.specs.declared.trees.Program.{Program}
use Rattle.pr_flat.specs.declared.flat.Flat.{Flat}
use Rattle.pr_flat.specs.Flats as flats
use Rattle.pr_flat.specs.Shape.{EquationShape}
use Rattle.pr_narrow.specs.Narrowed.{AreNarrowed}
use Rattle.pr_net.specs.Shape.{NetShape}
use Rattle.pr_cut_units.specs.Equations.{UnitPlan, plan_of}
use Rattle.pr_cut_units.specs.Flats.{flat_net, flat_plan}
use Rattle.pr_cut_units.specs.Nets.{limit_passed, net_of}
use Rattle.pr_expand_spec.specs.Programs.{equations_of}
use Rattle.pr_compile_front.specs.Passed.{HasEquations}
use Rattle.pr_compile_front.specs.Refusals.{HasWidths}
use Rattle.pr_compile.specs.Configured.{OfReadyBy}
use Rattle.pr_lens_fits.specs.Unfits.{AreTold, IsReadyOf, PassesLimit}
use Rattle.pr_lens_fits.proofs.UnfitLemmas.{of_told, passes, ready_told}
use Rattle.pr_lens_needs.specs.declared.takes.Take.{Take}
use Rattle.pr_lens_needs.specs.Columns.{HasDeclared, DeclaresOther, HasColumns, declares, held_columns}
use Rattle.pr_lens_needs.specs.Needs.{OfText}
use Rattle.pr_lens_needs.specs.Takes.{take_of, takes_before, with_take}

-- ---- operators
-- one more
pub takes_more : (plan : UnitPlan) (net : NetShape) (units : List ℕ) (number : ℕ) (takes : List Take) (one : Take) → takes ≡ takes_before plan net units number → one ≡ take_of plan net units number
    → with_take takes one ≡ takes_before plan net units (number + 1)
takes_more plan net units number takes one before is =
    let each : ℕ → Take = take_of plan net units in
    (λ n. with_take (before n) (is n))
    ∙ (sym (fold_push with_take [] (map each (range_with_len 0 number)) (each number))
    ∙ ap (λ (all : List Take). fold with_take [] all) (sym (map-range_with_len_more each 0 number number (omega arith))))

-- what follows where there is none
pub none_then : {X : Type 0} (o : Option X) {P Q : Type 0} → IfNone o P → (P → Q) → IfNone o Q
none_then None is then = then is
none_then (Some x) is then = is

-- there is none
pub none_left : {X : Type 0} (o : Option X) {P : Type 0} → ((x : X) → o ≡ Some x → ⊥) → IfNone o P → P
none_left None not is = is
none_left (Some x) not is = absurd (not x refl)

-- ---- a text whose net is made of these equations
pub of_text : (Holds : UnitPlan → NetShape → Type 0) (narrowed : Bool) (text : List ℕ) (ready : Flat) (news : List ℕ) → IsReadyOf narrowed text ready news → Holds (flat_plan ready news) (flat_net ready news) → OfText narrowed text Holds
of_text Holds narrowed text ready news r is = record {
  program = r.program;
  given = r.given;
  has = r.has;
  are = of_told (λ es ws qs. Holds (plan_of es ws qs) (net_of es ws qs)) narrowed r.program r.given ready news r.are is;
}

-- ---- a text whose program has these equations, which are made ready
module _ (narrowed : Bool) (text : List ℕ) (program : Program) (flat : Flat) (widths : List ℕ) (ready : Flat) (news : List ℕ) (has : HasEquations program flat) (given : HasWidths text program widths)
    (narrow : IsTrue narrowed → AreNarrowed (flats.equations_of flat) flat.outputs.items widths (flats.equations_of ready) news)
    (whole : IsFalse narrowed → (ready ≡ flat) × (news ≡ widths)) (outputs : ready.outputs.items ≡ flat.outputs.items) where
  are : OfReadyBy narrowed program widths (λ es ws. AreTold ready news es ws (equations_of program).outputs)
  are = ready_told narrowed program flat widths ready news has given.are narrow whole outputs

  pub limit_told : (columns : ℕ) (which : Cap) → limit_passed columns (flat_net ready news) ≡ Some which → PassesLimit columns narrowed text which
  limit_told columns which is = passes columns narrowed text ready news which (record { program = program; given = widths; has = given; are = are }) is

  pub columns_told : (rec : ℕ) (width : Option ℕ) (found : Option ℕ) → declares (flats.equations_of flat) rec width ≡ true → found ≡ held_columns (flat_plan ready news) (flat_net ready news) rec → HasColumns narrowed text rec width found
  columns_told rec width found declared is = record {
    program = program;
    given = widths;
    has = given;
    declared = subst (λ (es : List EquationShape). declares es rec width ≡ true) has.equations declared;
    are = of_told (λ es ws qs. found ≡ held_columns (plan_of es ws qs) (net_of es ws qs) rec) narrowed program widths ready news are is;
  }

pub declares_other : (text : List ℕ) (program : Program) (flat : Flat) (widths : List ℕ) (rec : ℕ) (width : Option ℕ) → HasEquations program flat → HasWidths text program widths → declares (flats.equations_of flat) rec width ≡ false → DeclaresOther text rec width
declares_other text program flat widths rec width has given other = record {
  program = program;
  given = widths;
  has = given;
  other = subst (λ (es : List EquationShape). declares es rec width ≡ false) has.equations other;
}

pub declares_this : (text : List ℕ) (program : Program) (flat : Flat) (widths : List ℕ) (rec width : ℕ) → HasEquations program flat → HasWidths text program widths → declares (flats.equations_of flat) rec (Some width) ≡ true → HasDeclared text rec width
declares_this text program flat widths rec width has given this = record {
  program = program;
  given = widths;
  has = given;
  this = subst (λ (es : List EquationShape). declares es rec (Some width) ≡ true) has.equations this;
}
