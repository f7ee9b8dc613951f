-- What narrowing gives is flat, has the new widths, and gives what the equations give.
use Rattle.std.proofs.Common.{◌≡◌, ℕ, suc, ◌<◌, ◌≤◌, Bool, true, false, Option, Some, None, unwrap_or, cond, List, [], ◌∷◌, length, get_or, map, refl, sym, ap, ap₂, subst, ◌∙◌, arith}
use Rattle.std.specs.List.{slice_get}
use Rattle.pr_flat.specs.declared.equations.Operand.{Operand}
use Rattle.pr_flat.specs.declared.equations.Operand.TheVariants.{Const, Eq, Past}
use Rattle.pr_flat.specs.Shape.{EquationShape}
use Rattle.pr_flat.specs.Facts.{is_input, is_lawful_output, IsFlat}
use Rattle.pr_flat.specs.Widths.{operand_width, AreWidths}
use Rattle.pr_flat.specs.Values.{input_widths, operand_number, output_list, rows_of}
use Rattle.pr_base.specs.Rows.{IsRow}
use Rattle.pr_narrow.specs.Known.{known_number, known_of, folded_shape, folded}
use Rattle.pr_narrow.specs.Demand.{IsDemand}
use Rattle.pr_narrow.specs.Narrowed.{new_widths, narrowed_by, AreNarrowed}
use Rattle.pr_flat.specs.Laws.{AreSamples}
use Rattle.pr_narrow.proofs.RowsKept.{output_width}
use Rattle.pr_narrow.proofs.NewWidths.{Given, cut_to}
use Rattle.pr_narrow.proofs.NarrowedWidths.{narrowed_widths}
use Rattle.pr_narrow.proofs.NarrowedFlat.{narrowed_flat, narrowed_lists}
use Rattle.pr_narrow.proofs.LawfulWidths.{lawful_below}
use Rattle.pr_narrow.proofs.FoldedFlat.{folded_flat, folded-at, length-folded}
use Rattle.pr_narrow.proofs.FoldedWidths.{folded_widths}
use Rattle.pr_narrow.proofs.FoldedRows.{rows_of-agree, input_folds}

pub given_of : (equations : List EquationShape) (outputs : List Operand) (widths demand : List ℕ) → IsFlat equations outputs → AreWidths equations widths → IsDemand (folded equations widths) outputs widths demand → Given (folded equations widths) outputs widths demand
given_of equations outputs widths demand flat all demanded =
    let new_flat = folded_flat equations outputs widths flat all in
    let new_all = folded_widths equations outputs widths flat all in
    record { flat = new_flat; all = new_all; demanded = demanded; lawful = λ i within. lawful_below (folded equations widths) outputs widths new_flat new_all (suc i) i (omega arith) within }

-- what narrowing gives is flat
pub flat_stays : (equations : List EquationShape) (outputs : List Operand) (widths : List ℕ) (narrowed : List EquationShape) (news : List ℕ) → IsFlat equations outputs → AreWidths equations widths → AreNarrowed equations outputs widths narrowed news → IsFlat narrowed outputs
flat_stays equations outputs widths narrowed news flat all n =
    let g = given_of equations outputs widths n.demand flat all n.demanded in
    let P : List EquationShape → Type 0 = λ x. IsFlat x outputs in
    let e : narrowed ≡ narrowed_by n.demand (new_widths (folded equations widths) widths n.demand) (folded equations widths) = n.equations_are ∙ ap (λ (w : List ℕ). narrowed_by n.demand w (folded equations widths)) n.widths_are in
    subst P (sym e) (narrowed_flat (folded equations widths) outputs widths n.demand g)

-- solve answers the new widths
pub widths_settle : (equations : List EquationShape) (outputs : List Operand) (widths : List ℕ) (narrowed : List EquationShape) (news : List ℕ) → IsFlat equations outputs → AreWidths equations widths → AreNarrowed equations outputs widths narrowed news → AreWidths narrowed news
widths_settle equations outputs widths narrowed news flat all n =
    let g = given_of equations outputs widths n.demand flat all n.demanded in
    let v = new_widths (folded equations widths) widths n.demand in
    let P : List EquationShape → Type 0 = λ x. AreWidths x v in
    let Q : List ℕ → Type 0 = λ w. AreWidths narrowed w in
    let e : narrowed ≡ narrowed_by n.demand v (folded equations widths) = n.equations_are ∙ ap (λ (w : List ℕ). narrowed_by n.demand w (folded equations widths)) n.widths_are in
    subst Q (sym n.widths_are) (subst P (sym e) (narrowed_widths (folded equations widths) outputs widths n.demand g))

-- ---- samples and outputs
pub inputs_same : (xs ys : List EquationShape) → length ys ≡ length xs → ((k : ℕ) (x y : EquationShape) → slice_get xs k ≡ Some x → slice_get ys k ≡ Some y → (is_input y.op ≡ is_input x.op) × (is_input x.op ≡ true → y ≡ x)) → input_widths ys ≡ input_widths xs
inputs_same [] [] count same = refl
inputs_same (x ∷ xs) (y ∷ ys) count same = by_test (is_input x.op) (is_input y.op) (same 0 x y refl refl).0 (same 0 x y refl refl).1 (inputs_same xs ys (omega arith) (λ k u v there at. same (suc k) u v there at)) where
  by_test : (a b : Bool) → b ≡ a → (a ≡ true → y ≡ x) → input_widths ys ≡ input_widths xs → cond b (unwrap_or y.declared 0 ∷ input_widths ys) (input_widths ys) ≡ cond a (unwrap_or x.declared 0 ∷ input_widths xs) (input_widths xs)
  by_test true true is equal rest = ap₂ (λ (e : EquationShape) (ws : List ℕ). unwrap_or e.declared 0 ∷ ws) (equal refl) rest
  by_test false false is equal rest = rest
  by_test true false is equal rest = cc
  by_test false true is equal rest = cc
inputs_same [] (y ∷ ys) count same = absurd (omega arith)
inputs_same (x ∷ xs) [] count same = absurd (omega arith)

input_whole : (widths : List ℕ) (known : List (Option ℕ)) (w v : ℕ) (e : EquationShape) (o : Option ℕ) → known_number widths known w e ≡ o → is_input e.op ≡ true → folded_shape o v e ≡ e
input_whole widths known w v e None is input = refl
input_whole widths known w v e (Some n) is input = absurd (let folds = input_folds widths known w v e (Some n) is in let no : false ≡ true = folds ∙ input in cc)

pub samples_same : (equations : List EquationShape) (outputs : List Operand) (widths : List ℕ) → IsFlat equations outputs → AreWidths equations widths → input_widths (folded equations widths) ≡ input_widths equations
samples_same equations outputs widths flat all = inputs_same equations (folded equations widths) (length-folded equations outputs widths all) (λ k x y there at.
    let o = known_number widths (known_of equations widths) (unwrap_or (slice_get widths k) 0) x in
    let is : Some (folded_shape o (get_or widths k 0) x) ≡ Some y = sym (folded-at equations outputs widths k x flat all there) ∙ at in
    let same : folded_shape o (get_or widths k 0) x ≡ y = cc in
    let P : EquationShape → Type 0 = λ z. is_input z.op ≡ is_input x.op in
    (subst P same (input_folds widths (known_of equations widths) (unwrap_or (slice_get widths k) 0) (get_or widths k 0) x o refl), λ input. sym same ∙ input_whole widths (known_of equations widths) (unwrap_or (slice_get widths k) 0) (get_or widths k 0) x o refl input))

numbers_same : (one other : List EquationShape) (count : ℕ) (a : Operand) (rows : List (List ℕ)) → is_lawful_output count a ≡ true → map (λ (row : List ℕ). operand_number one [] row a) rows ≡ map (λ (row : List ℕ). operand_number other [] row a) rows
numbers_same one other count (Const c) rows lawful = refl
numbers_same one other count (Eq i) rows lawful = refl
numbers_same one other count (Past rec k) rows lawful = cc

-- the list of an output stays
pub lists_stay : (equations : List EquationShape) (outputs : List Operand) (widths : List ℕ) (narrowed : List EquationShape) (news : List ℕ) (samples : List (List ℕ)) (k : ℕ) (a : Operand) → IsFlat equations outputs → AreWidths equations widths → AreNarrowed equations outputs widths narrowed news → k < length outputs → is_lawful_output (length equations) (get_or outputs k a) ≡ true → AreSamples equations samples → output_list narrowed news samples (get_or outputs k a) ≡ output_list equations widths samples (get_or outputs k a)
lists_stay equations outputs widths narrowed news samples k a flat all n within lawful are =
    let f = folded equations widths in
    let b = get_or outputs k a in
    let g = given_of equations outputs widths n.demand flat all n.demanded in
    let v = new_widths f widths n.demand in
    let e : narrowed ≡ narrowed_by n.demand v f = n.equations_are ∙ ap (λ (w : List ℕ). narrowed_by n.demand w f) n.widths_are in
    let L : ℕ → Type 0 = λ m. is_lawful_output m b ≡ true in
    let I : List ℕ → Type 0 = λ ws. (i : ℕ) (sample : List ℕ) → slice_get samples i ≡ Some sample → IsRow ws sample in
    let lawful_folded = subst L (sym (length-folded equations outputs widths all)) lawful in
    let are_folded : AreSamples f samples = subst I (sym (samples_same equations outputs widths flat all)) are in
    ap₂ (λ (x : List EquationShape) (w : List ℕ). output_list x w samples b) e n.widths_are
    ∙ narrowed_lists f outputs widths n.demand samples b g (n.demanded.rules.outputs_whole k a within) lawful_folded are_folded
    ∙ ap (λ (rows : List (List ℕ)). map (λ (row : List ℕ). operand_number f [] row b) rows) (rows_of-agree equations outputs widths samples flat all)
    ∙ numbers_same f equations (length equations) b (rows_of equations widths samples) lawful

-- and so does its width
pub output_widths_stay : (equations : List EquationShape) (outputs : List Operand) (widths : List ℕ) (narrowed : List EquationShape) (news : List ℕ) (k : ℕ) (a : Operand) → IsFlat equations outputs → AreWidths equations widths → AreNarrowed equations outputs widths narrowed news → k < length outputs → is_lawful_output (length widths) (get_or outputs k a) ≡ true → 1 ≤ operand_width widths (get_or outputs k a) → operand_width news (get_or outputs k a) ≡ operand_width widths (get_or outputs k a)
output_widths_stay equations outputs widths narrowed news k a flat all n within lawful some =
    let g = given_of equations outputs widths n.demand flat all n.demanded in
    let c = cut_to (folded equations widths) outputs widths n.demand g in
    let b = get_or outputs k a in
    ap (λ (w : List ℕ). operand_width w b) n.widths_are ∙ output_width widths (new_widths (folded equations widths) widths n.demand) n.demand b (n.demanded.rules.outputs_whole k a within) c.least c.most some lawful
