-- Rows and their numbers: each number is what its equation makes of the numbers of the same row and of the rows before.
use Rattle.std.proofs.Common.{◌≡◌, ℕ, zero, suc, ◌+◌, ◌<◌, Bool, true, Some, List, [], ◌∷◌, ◌++◌, length, reverse, take, get_or, refl, sym, ◌∙◌, ap, ap₂, subst, arith, length-append, append_assoc}
use Rattle.std.specs.List.{slice_get, list_all}
use Rattle.std.proofs.lemmas.Bool.{and_parts, ltb-true}
use Rattle.std.proofs.lemmas.Grind.{reverse_onto}
use Rattle.std.proofs.lemmas.List.{append-nil}
use Rattle.std.proofs.Math.ListN.{get_or-append}
use Rattle.std.proofs.Math.Seq.{get_or-append_seam}
use Rattle.pr_flat.specs.declared.equations.Operand.{Operand}
use Rattle.pr_flat.specs.declared.equations.Operand.TheVariants.{Const, Eq, Past}
use Rattle.pr_flat.specs.declared.equations.Op.{Op}
use Rattle.pr_flat.specs.declared.equations.Op.TheVariants.{Input, Delay, Rec}
use Rattle.pr_flat.specs.declared.forms.Form.{Form}
use Rattle.pr_flat.specs.declared.forms.Point.{Point}
use Rattle.pr_flat.specs.Rows.{forms_of}
use Rattle.pr_flat.specs.Shape.{EquationShape}
use Rattle.pr_flat.specs.Facts.{is_lawful_operand, IsFlat}
use Rattle.pr_flat.specs.Widths.{operand_width, operand_forms}
use Rattle.pr_flat.specs.Values.{Sight, operand_number, points_in, operator_number, recurrence_number, number_in, row_after, row_of, rows_after, rows_of}

-- the operands of a row are read in the forms by which widths are found
pub forms_of-points_in : (sight : Sight) (args : List Operand) (kinds : List Bool) → forms_of (points_in sight args kinds) ≡ operand_forms sight.widths args kinds
forms_of-points_in sight [] kinds = refl
forms_of-points_in sight (a ∷ args) [] = refl
forms_of-points_in sight (a ∷ args) (kind ∷ kinds) = ap (λ (forms : List Form). record { signed = kind; width = operand_width sight.widths a } ∷ forms) (forms_of-points_in sight args kinds)

-- a row has a number for each equation
pub length-row_after : (sight : Sight) (rest : List EquationShape) → length (row_after sight rest) ≡ length sight.row + length rest
length-row_after sight [] = omega arith
length-row_after sight (e ∷ rest) =
    let more = length-row_after (record sight { row = sight.row ++ number_in sight (length sight.row) e.op e.args e.kinds ∷ [] }) rest in
    omega (arith, length-append sight.row (number_in sight (length sight.row) e.op e.args e.kinds ∷ []))

-- the numbers that a row begins with stay
pub row_after-kept : (sight : Sight) (rest : List EquationShape) (i : ℕ) → i < length sight.row → get_or (row_after sight rest) i 0 ≡ get_or sight.row i 0
row_after-kept sight [] i low = refl
row_after-kept sight (e ∷ rest) i low =
    let n = number_in sight (length sight.row) e.op e.args e.kinds in
    let more : i < length (sight.row ++ n ∷ []) = omega (arith, length-append sight.row (n ∷ [])) in
    row_after-kept (record sight { row = sight.row ++ n ∷ [] }) rest i more ∙ get_or-append sight.row (n ∷ []) 0 i low

operand_number_same : (equations : List EquationShape) (before : List (List ℕ)) (row other : List ℕ) (i : ℕ) (a : Operand) → is_lawful_operand equations i a ≡ true → ((j : ℕ) → j < i → get_or row j 0 ≡ get_or other j 0) → operand_number equations before row a ≡ operand_number equations before other a
operand_number_same equations before row other i (Const c) lawful same = refl
operand_number_same equations before row other i (Eq j) lawful same = same j (ltb-true j i lawful)
operand_number_same equations before row other i (Past rec k) lawful same = refl

points_same : (sight : Sight) (row : List ℕ) (i : ℕ) (args : List Operand) (kinds : List Bool) → list_all (is_lawful_operand sight.equations i) args ≡ true → ((j : ℕ) → j < i → get_or sight.row j 0 ≡ get_or row j 0) → points_in sight args kinds ≡ points_in (record sight { row = row }) args kinds
points_same sight row i [] kinds lawful same = refl
points_same sight row i (a ∷ args) [] lawful same = refl
points_same sight row i (a ∷ args) (kind ∷ kinds) lawful same =
    let parts = and_parts (is_lawful_operand sight.equations i a) (list_all (is_lawful_operand sight.equations i) args) lawful in
    ap₂ (λ (n : ℕ) (points : List Point). record { form = record { signed = kind; width = operand_width sight.widths a }; number = n } ∷ points) (operand_number_same sight.equations sight.before sight.row row i a parts.0 same) (points_same sight row i args kinds parts.1 same)

number_in_same : (sight : Sight) (row : List ℕ) (i : ℕ) (op : Op) (args : List Operand) (kinds : List Bool) → list_all (is_lawful_operand sight.equations i) args ≡ true → ((j : ℕ) → j < i → get_or sight.row j 0 ≡ get_or row j 0) → number_in sight i op args kinds ≡ number_in (record sight { row = row }) i op args kinds
number_in_same sight row i Input args kinds lawful same = refl
number_in_same sight row i (Delay c) [] kinds lawful same = refl
number_in_same sight row i (Delay c) (a ∷ args) kinds lawful same = refl
number_in_same sight row i (Rec init first) args kinds lawful same = ap (recurrence_number (get_or sight.widths i 0)) (points_same sight row i args kinds lawful same)
number_in_same sight row i op args kinds lawful same = ap (operator_number (get_or sight.widths i 0) op) (points_same sight row i args kinds lawful same)

row_after-at : (sight : Sight) (rest : List EquationShape) (k : ℕ) (e : EquationShape) → slice_get rest k ≡ Some e → list_all (is_lawful_operand sight.equations (length sight.row + k)) e.args ≡ true → get_or (row_after sight rest) (length sight.row + k) 0 ≡ number_in (record sight { row = row_after sight rest }) (length sight.row + k) e.op e.args e.kinds
row_after-at sight [] k e there lawful = cc
row_after-at sight (d ∷ rest) zero e there lawful =
    let same : d ≡ e = cc in
    let here : length sight.row ≡ length sight.row + 0 = omega arith in
    let n = number_in sight (length sight.row) d.op d.args d.kinds in
    let whole = row_after sight (d ∷ rest) in
    let P : ℕ → Type 0 = λ i. list_all (is_lawful_operand sight.equations i) e.args ≡ true in
    let Q : EquationShape → Type 0 = λ x. list_all (is_lawful_operand sight.equations (length sight.row)) x.args ≡ true in
    let lawful_here : list_all (is_lawful_operand sight.equations (length sight.row)) d.args ≡ true = subst Q (sym same) (subst P (sym here) lawful) in
    let less : length sight.row < length (sight.row ++ n ∷ []) = omega (arith, length-append sight.row (n ∷ [])) in
    let number : get_or whole (length sight.row) 0 ≡ n = row_after-kept (record sight { row = sight.row ++ n ∷ [] }) rest (length sight.row) less ∙ get_or-append_seam sight.row n [] 0 in
    let kept : n ≡ number_in (record sight { row = whole }) (length sight.row) d.op d.args d.kinds = number_in_same sight whole (length sight.row) d.op d.args d.kinds lawful_here (λ j low. sym (row_after-kept sight (d ∷ rest) j low)) in
    let R : EquationShape → Type 0 = λ x. get_or whole (length sight.row) 0 ≡ number_in (record sight { row = whole }) (length sight.row) x.op x.args x.kinds in
    let S : ℕ → Type 0 = λ i. get_or whole i 0 ≡ number_in (record sight { row = whole }) i e.op e.args e.kinds in
    subst S here (subst R same (number ∙ kept))
row_after-at sight (d ∷ rest) (suc k) e there lawful =
    let n = number_in sight (length sight.row) d.op d.args d.kinds in
    let place : length (sight.row ++ n ∷ []) + k ≡ length sight.row + suc k = omega (arith, length-append sight.row (n ∷ [])) in
    let whole = row_after sight (d ∷ rest) in
    let P : ℕ → Type 0 = λ i. list_all (is_lawful_operand sight.equations i) e.args ≡ true in
    let S : ℕ → Type 0 = λ i. get_or whole i 0 ≡ number_in (record sight { row = whole }) i e.op e.args e.kinds in
    subst S place (row_after-at (record sight { row = sight.row ++ n ∷ [] }) rest k e there (subst P (sym place) lawful))

-- each number of a row, from the other numbers of the row and the rows before
pub row_of-at : (equations : List EquationShape) (outputs : List Operand) (widths : List ℕ) (before : List (List ℕ)) (sample : List ℕ) (i : ℕ) (e : EquationShape) → IsFlat equations outputs → slice_get equations i ≡ Some e → get_or (row_of equations widths before sample) i 0 ≡ number_in (record { equations = equations; widths = widths; before = before; sample = sample; row = row_of equations widths before sample }) i e.op e.args e.kinds
row_of-at equations outputs widths before sample i e flat there =
    let start : Sight = record { equations = equations; widths = widths; before = before; sample = sample; row = [] } in
    let place : 0 + i ≡ i = omega arith in
    let P : ℕ → Type 0 = λ j. list_all (is_lawful_operand equations j) e.args ≡ true in
    let S : ℕ → Type 0 = λ j. get_or (row_of equations widths before sample) j 0 ≡ number_in (record start { row = row_of equations widths before sample }) j e.op e.args e.kinds in
    subst S place (row_after-at start equations i e there (subst P (sym place) (flat.operands i e there)))

pub length-row_of : (equations : List EquationShape) (widths : List ℕ) (before : List (List ℕ)) (sample : List ℕ) → length (row_of equations widths before sample) ≡ length equations
length-row_of equations widths before sample = let count = length-row_after (record { equations = equations; widths = widths; before = before; sample = sample; row = [] }) equations in omega arith

pub length-rows_after : (equations : List EquationShape) (widths : List ℕ) (before samples : List (List ℕ)) → length (rows_after equations widths before samples) ≡ length samples
length-rows_after equations widths before [] = refl
length-rows_after equations widths before (sample ∷ samples) = ap suc (length-rows_after equations widths (row_of equations widths before sample ∷ before) samples)

-- row n is made from its sample and the rows before it
rows_after-at : (equations : List EquationShape) (widths : List ℕ) (before samples : List (List ℕ)) (n : ℕ) (sample : List ℕ) → slice_get samples n ≡ Some sample → slice_get (rows_after equations widths before samples) n ≡ Some (row_of equations widths (reverse (take n (rows_after equations widths before samples)) ++ before) sample)
rows_after-at equations widths before [] n sample there = cc
rows_after-at equations widths before (s ∷ samples) zero sample there = let same : s ≡ sample = cc in ap (λ (x : List ℕ). Some (row_of equations widths before x)) same
rows_after-at equations widths before (s ∷ samples) (suc n) sample there =
    let row = row_of equations widths before s in
    let later = take n (rows_after equations widths (row ∷ before) samples) in
    rows_after-at equations widths (row ∷ before) samples n sample there ∙ ap (λ (x : List (List ℕ)). Some (row_of equations widths x sample)) (sym (ap (λ (x : List (List ℕ)). x ++ before) (reverse_onto later row []) ∙ append_assoc (reverse later) (row ∷ []) before))

pub rows_of-at : (equations : List EquationShape) (widths : List ℕ) (samples : List (List ℕ)) (n : ℕ) (sample : List ℕ) → slice_get samples n ≡ Some sample → slice_get (rows_of equations widths samples) n ≡ Some (row_of equations widths (reverse (take n (rows_of equations widths samples))) sample)
rows_of-at equations widths samples n sample there = rows_after-at equations widths [] samples n sample there ∙ ap (λ (x : List (List ℕ)). Some (row_of equations widths x sample)) (append-nil (reverse (take n (rows_of equations widths samples))))
