-- Equations that are ready stand for those that they come from: with the same inputs, outputs as wide, and the same rows of
-- outputs; and they are the only ones.
use Rattle.std.proofs.Common.{◌≡◌, ◌<◌, ◌≤◌, ℕ, zero, suc, Bool, true, false, Some, List, [], ◌∷◌, length, map, get_or, All, refl, sym, ap, ap₂, ◌∙◌, subst, arith}
use Rattle.std.specs.List.{slice_get}
use Rattle.std.proofs.lemmas.List.{same_lists, length-map, get_or-map}
use Rattle.pr_base.specs.Rows.{IsRow}
use Rattle.pr_lang.specs.declared.trees.Program.{Program}
use Rattle.pr_flat.specs.declared.equations.Operand.{Operand}
use Rattle.pr_flat.specs.declared.flat.Flat.{Flat}
use Rattle.pr_flat.specs.Shape.{EquationShape, shapes_of}
use Rattle.pr_flat.specs.Facts.{IsFlat}
use Rattle.pr_flat.specs.Widths.{operand_width, AreWidths}
use Rattle.pr_flat.specs.Values.{input_widths, operand_number, rows_of, output_list}
use Rattle.pr_flat.proofs.ValueLemmas.{length-rows_after}
use Rattle.pr_narrow.specs.Narrowed.{AreNarrowed}
use Rattle.pr_narrow.proofs.OneNarrowing.{one_narrowing}
use Rattle.pr_narrow.proofs.OutputsStay.{inputs_stay, width_stays, list_stays}
use Rattle.pr_expand_spec.specs.Programs.{Flattened, equations_of}
use Rattle.pr_compile_front.specs.Passed.{HasEquations}
use Rattle.pr_compile.specs.Configured.{AreReady, OfReady, OfReadyBy}

-- ---- the same everywhere
same_by_place : {A B : Type 0} (f g : A → B) (xs : List A) → ((k : ℕ) (x : A) → slice_get xs k ≡ Some x → f x ≡ g x) → map f xs ≡ map g xs
same_by_place f g [] same = refl
same_by_place f g (x ∷ xs) same = ap₂ (λ y ys. y ∷ ys) (same 0 x refl) (same_by_place f g xs (λ k y at. same (suc k) y at))

-- lists that are the same for each output are the same rows of outputs
same_rows : (F G : List ℕ → Operand → ℕ) (rows others : List (List ℕ)) (outputs : List Operand) → length rows ≡ length others
    → ((k : ℕ) (a : Operand) → slice_get outputs k ≡ Some a → map (λ row. F row a) rows ≡ map (λ row. G row a) others)
    → map (λ row. map (F row) outputs) rows ≡ map (λ row. map (G row) outputs) others
same_rows F G rows others outputs long same =
    let one : List ℕ → List ℕ = λ row. map (F row) outputs in
    let other : List ℕ → List ℕ = λ row. map (G row) outputs in
    same_lists (map one rows) (map other others) (length-map rows one ∙ (long ∙ sym (length-map others other))) (λ n d low. (
    let below : n < length rows = omega (arith, low, length-map rows one) in
    let also : n < length others = omega (arith, below, long) in
    get_or-map one rows n [] d below
    ∙ (same_by_place (F (get_or rows n [])) (G (get_or others n [])) outputs (λ k a at.
    sym (get_or-map (λ row. F row a) rows n [] 0 below) ∙ (ap (λ (l : List ℕ). get_or l n 0) (same k a at) ∙ get_or-map (λ row. G row a) others n [] 0 also))
    ∙ sym (get_or-map other others n [] d also))))

-- ---- what stays
pub record Stay (equations : List EquationShape) (outputs : List Operand) (widths : List ℕ) (ready : List EquationShape) (news : List ℕ) : Type 0 where
  pub inputs : input_widths ready ≡ input_widths equations
  pub widths_are : map (operand_width news) outputs ≡ map (operand_width widths) outputs
  pub rows : (samples : List (List ℕ)) → All (IsRow (input_widths equations)) samples → map (λ row. map (operand_number ready [] row) outputs) (rows_of ready news samples) ≡ map (λ row. map (operand_number equations [] row) outputs) (rows_of equations widths samples)

narrowed_stay : (equations : List EquationShape) (outputs : List Operand) (widths : List ℕ) (ready : List EquationShape) (news : List ℕ) → IsFlat equations outputs → AreWidths equations widths → AreNarrowed equations outputs widths ready news → Stay equations outputs widths ready news
narrowed_stay equations outputs widths ready news flat all n = record {
  inputs = inputs_stay equations outputs widths ready news flat all n;
  widths_are = same_by_place (operand_width news) (operand_width widths) outputs (λ k a at. width_stays equations outputs widths ready news k a flat all n at);
  rows = λ samples lawful. same_rows (λ row a. operand_number ready [] row a) (λ row a. operand_number equations [] row a) (rows_of ready news samples) (rows_of equations widths samples) outputs
      (length-rows_after ready news [] samples ∙ sym (length-rows_after equations widths [] samples))
      (λ k a at. list_stays equations outputs widths ready news samples k a flat all n lawful at);
}

pub stay : (narrow : Bool) (equations : List EquationShape) (outputs : List Operand) (widths : List ℕ) (ready : List EquationShape) (news : List ℕ) → IsFlat equations outputs → AreWidths equations widths → AreReady narrow equations outputs widths ready news → Stay equations outputs widths ready news
stay false equations outputs widths ready news flat all are =
    let whole : Stay equations outputs widths equations widths = record { inputs = refl; widths_are = refl; rows = λ samples lawful. refl } in
    subst (λ (es : List EquationShape). Stay equations outputs widths es news) (sym are.0) (subst (λ (ws : List ℕ). Stay equations outputs widths equations ws) (sym are.1) whole)
stay true equations outputs widths ready news flat all are = narrowed_stay equations outputs widths ready news flat all are

-- ---- no others are ready
pub one_ready : (narrow : Bool) (equations : List EquationShape) (outputs : List Operand) (widths : List ℕ) (ready : List EquationShape) (news : List ℕ) (others : List EquationShape) (widths_of_others : List ℕ)
    → AreReady narrow equations outputs widths ready news → AreReady narrow equations outputs widths others widths_of_others → (ready ≡ others) × (news ≡ widths_of_others)
one_ready false equations outputs widths ready news others widths_of_others one other = (one.0 ∙ sym other.0, one.1 ∙ sym other.1)
one_ready true equations outputs widths ready news others widths_of_others one other = one_narrowing equations outputs widths ready news others widths_of_others one other

-- what holds of those that are ready holds of all that are
pub holds_also : (narrow : Bool) (equations : List EquationShape) (outputs : List Operand) (widths : List ℕ) (Holds Also : List EquationShape → List ℕ → Type 0)
    → (one : OfReady narrow equations outputs widths Holds) (other : OfReady narrow equations outputs widths Also) → Holds other.ready other.news
holds_also narrow equations outputs widths Holds Also one other =
    let same = one_ready narrow equations outputs widths one.ready one.news other.ready other.news one.are other.are in
    subst (λ (es : List EquationShape). Holds es other.news) same.0 (subst (λ (ws : List ℕ). Holds one.ready ws) same.1 one.holds)

-- ---- the equations of a program
module _ (Q : List EquationShape → List ℕ → List Operand → Type 0) (program : Program) (flat : Flat) (widths : List ℕ) (h : HasEquations program flat) (all : AreWidths (equations_of program).equations widths) where
  flat_program : IsFlat (equations_of program).equations (equations_of program).outputs
  flat_program = subst (λ (qs : List Operand). IsFlat (equations_of program).equations qs) h.outputs (subst (λ (es : List EquationShape). IsFlat es flat.outputs.items) h.equations flat.lawful)

  -- as they are
  pub whole_ready : Q (shapes_of flat.equations.items) widths flat.outputs.items → OfReadyBy false program widths (λ ready news. Q ready news (equations_of program).outputs)
  whole_ready holds = record {
    flat = flat_program;
    widths_are = all;
    ready = (equations_of program).equations;
    news = widths;
    are = (refl, refl);
    holds = subst (λ (qs : List Operand). Q (equations_of program).equations widths qs) h.outputs (subst (λ (es : List EquationShape). Q es widths flat.outputs.items) h.equations holds);
  }

  -- narrowed
  pub narrowed_ready : (narrowed : Flat) (news : List ℕ) → AreNarrowed (shapes_of flat.equations.items) flat.outputs.items widths (shapes_of narrowed.equations.items) news → narrowed.outputs.items ≡ flat.outputs.items
      → Q (shapes_of narrowed.equations.items) news narrowed.outputs.items → OfReadyBy true program widths (λ ready w. Q ready w (equations_of program).outputs)
  narrowed_ready narrowed news n outputs holds =
      let given = shapes_of narrowed.equations.items in
      record {
        flat = flat_program;
        widths_are = all;
        ready = given;
        news = news;
        are = subst (λ (qs : List Operand). AreNarrowed (equations_of program).equations qs widths given news) h.outputs (subst (λ (es : List EquationShape). AreNarrowed es flat.outputs.items widths given news) h.equations n);
        holds = subst (λ (qs : List Operand). Q given news qs) (outputs ∙ h.outputs) holds;
      }

-- of another program with the same equations
pub ready_also : (Q : Flattened → List EquationShape → List ℕ → Type 0) (narrow : Bool) (f g : Flattened) (v w : List ℕ) → (f ≡ g) × (v ≡ w) → OfReady narrow f.equations f.outputs v (Q f) → OfReady narrow g.equations g.outputs w (Q g)
ready_also Q narrow f g v w same r =
    subst (λ (l : Flattened). OfReady narrow l.equations l.outputs w (Q l)) same.0 (subst (λ (ws : List ℕ). OfReady narrow f.equations f.outputs ws (Q f)) same.1 r)
