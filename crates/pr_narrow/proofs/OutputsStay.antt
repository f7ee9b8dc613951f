-- Inputs and outputs after narrowing, each output by its place.
use Rattle.std.proofs.Common.{◌≡◌, ℕ, zero, suc, ◌≤◌, Bool, true, false, All, Some, cond, List, [], ◌∷◌, length, get_or, refl, sym, ap, subst, ◌∙◌, arith}
use Rattle.std.specs.List.{slice_get, list_all}
use Rattle.std.proofs.lemmas.Bool.{and_parts, ltb-true}
use Rattle.std.proofs.lemmas.Option.{slice_get_within, get_or_from_slice_get}
use Rattle.pr_base.specs.Rows.{IsRow}
use Rattle.pr_flat.specs.declared.equations.Operand.{Operand}
use Rattle.pr_flat.specs.declared.equations.Operand.TheVariants.{Const, Eq, Past}
use Rattle.pr_flat.specs.Shape.{EquationShape}
use Rattle.pr_flat.specs.Facts.{is_input, is_lawful_output, IsFlat}
use Rattle.pr_flat.specs.Widths.{operand_width, AreWidths}
use Rattle.pr_flat.specs.Values.{input_widths, output_list}
use Rattle.pr_narrow.specs.Known.{folded}
use Rattle.pr_narrow.specs.Narrowed.{AreNarrowed, narrowed_shape, narrowed_by, new_widths}
use Rattle.pr_narrow.proofs.RowsKept.{number_width-bounds}
use Rattle.pr_narrow.proofs.NewWidths.{narrowed_by-at, length-narrowed_by, length-new_widths, input_stays}
use Rattle.pr_narrow.proofs.LawfulWidths.{lawful_below}
use Rattle.pr_narrow.proofs.Narrowing.{inputs_same, samples_same, lists_stay, output_widths_stay}

-- an input stays whole
input_kept : (d w : ℕ) (e other : EquationShape) (b : Bool) → b ≡ true → cond b e other ≡ e
input_kept d w e other true is = refl
input_kept d w e other false is = cc

pub inputs_stay : (equations : List EquationShape) (outputs : List Operand) (widths : List ℕ) (narrowed : List EquationShape) (news : List ℕ) → IsFlat equations outputs → AreWidths equations widths → AreNarrowed equations outputs widths narrowed news → input_widths narrowed ≡ input_widths equations
inputs_stay equations outputs widths narrowed news flat all n =
    let f = folded equations widths in
    let v = new_widths f widths n.demand in
    let count = length-new_widths f widths n.demand in
    let e : narrowed ≡ narrowed_by n.demand v f = n.equations_are ∙ ap (λ (w : List ℕ). narrowed_by n.demand w f) n.widths_are in
    ap input_widths e
    ∙ inputs_same f (narrowed_by n.demand v f) (length-narrowed_by n.demand v f n.demanded.count count) (λ k x y there at.
    let is : Some (narrowed_shape (get_or n.demand k 0) (get_or v k 0) x) ≡ Some y = sym (narrowed_by-at n.demand v f k x n.demanded.count count there) ∙ at in
    let same : narrowed_shape (get_or n.demand k 0) (get_or v k 0) x ≡ y = cc in
    let P : EquationShape → Type 0 = λ z. is_input z.op ≡ is_input x.op in
    (subst P same (input_stays (get_or n.demand k 0) (get_or v k 0) x), λ input. sym same ∙ input_kept (get_or n.demand k 0) (get_or v k 0) x _ (is_input x.op) input))
    ∙ samples_same equations outputs widths flat all

-- the output at a place is lawful
output_lawful : (count : ℕ) (outputs : List Operand) (k : ℕ) (a : Operand) → list_all (is_lawful_output count) outputs ≡ true → slice_get outputs k ≡ Some a → is_lawful_output count a ≡ true
output_lawful count [] k a given there = cc
output_lawful count (b ∷ outputs) zero a given there = let same : b ≡ a = cc in ap (is_lawful_output count) (sym same) ∙ (and_parts (is_lawful_output count b) (list_all (is_lawful_output count) outputs) given).0
output_lawful count (b ∷ outputs) (suc k) a given there = output_lawful count outputs k a (and_parts (is_lawful_output count b) (list_all (is_lawful_output count) outputs) given).1 there

output_some : (equations : List EquationShape) (outputs : List Operand) (widths : List ℕ) (a : Operand) → IsFlat equations outputs → AreWidths equations widths → is_lawful_output (length equations) a ≡ true → 1 ≤ operand_width widths a
output_some equations outputs widths (Const c) flat all lawful = (number_width-bounds c).0
output_some equations outputs widths (Eq i) flat all lawful = (lawful_below equations outputs widths flat all (suc i) i (omega arith) (ltb-true i (length equations) lawful)).0
output_some equations outputs widths (Past rec k) flat all lawful = cc

pub width_stays : (equations : List EquationShape) (outputs : List Operand) (widths : List ℕ) (narrowed : List EquationShape) (news : List ℕ) (k : ℕ) (output : Operand) → IsFlat equations outputs → AreWidths equations widths → AreNarrowed equations outputs widths narrowed news → slice_get outputs k ≡ Some output → operand_width news output ≡ operand_width widths output
width_stays equations outputs widths narrowed news k a flat all n there =
    let lawful = output_lawful (length equations) outputs k a flat.given there in
    let some = output_some equations outputs widths a flat all lawful in
    let same : get_or outputs k a ≡ a = get_or_from_slice_get outputs k a a there in
    let P : Operand → Type 0 = λ b. operand_width news b ≡ operand_width widths b in
    let L : Operand → Type 0 = λ b. is_lawful_output (length widths) b ≡ true in
    let M : ℕ → Type 0 = λ m. is_lawful_output m a ≡ true in
    let S : Operand → Type 0 = λ b. 1 ≤ operand_width widths b in
    subst P same (output_widths_stay equations outputs widths narrowed news k a flat all n (slice_get_within outputs k a there) (subst L (sym same) (subst M (sym all.count) lawful)) (subst S (sym same) some))

pub list_stays : (equations : List EquationShape) (outputs : List Operand) (widths : List ℕ) (narrowed : List EquationShape) (news : List ℕ) (samples : List (List ℕ)) (k : ℕ) (output : Operand) → IsFlat equations outputs → AreWidths equations widths → AreNarrowed equations outputs widths narrowed news → All (IsRow (input_widths equations)) samples → slice_get outputs k ≡ Some output → output_list narrowed news samples output ≡ output_list equations widths samples output
list_stays equations outputs widths narrowed news samples k a flat all n are there =
    let lawful = output_lawful (length equations) outputs k a flat.given there in
    let same : get_or outputs k a ≡ a = get_or_from_slice_get outputs k a a there in
    let P : Operand → Type 0 = λ b. output_list narrowed news samples b ≡ output_list equations widths samples b in
    let L : Operand → Type 0 = λ b. is_lawful_output (length equations) b ≡ true in
    let R : List ℕ → Type 0 = λ row. IsRow (input_widths equations) row in
    subst P same (lists_stay equations outputs widths narrowed news samples k a flat all n (slice_get_within outputs k a there) (subst L (sym same) lawful) (λ i sample at. subst R (get_or_from_slice_get samples i sample sample at) (are i sample (slice_get_within samples i sample at))))
