-- Folded equations have the same rows.
use Rattle.std.proofs.Common.{ℤ, count_by, take, ◌≡◌, ℕ, zero, suc, ◌+◌, ◌^◌, ◌<◌, Bool, true, false, Option, Some, None, unwrap_or, cond, List, [], ◌∷◌, length, get_or, refl, sym, ap, ap₂, subst, ◌∙◌, arith}
use Rattle.std.specs.List.{slice_get, list_all}
use Rattle.std.specs.Option.{option_map_or}
use Rattle.std.proofs.lemmas.Bool.{and_parts, ltb-true}
use Rattle.std.proofs.lemmas.List.Sums.{sum_by-cons}
use Rattle.std.proofs.lemmas.Grind.{same_number_lists}
use Rattle.std.proofs.lemmas.Option.{slice_get_within}
use Rattle.std.proofs.Math.Nat.{mod-eq_of_lt}
use Rattle.pr_flat.specs.declared.equations.Operand.{Operand}
use Rattle.pr_flat.specs.declared.equations.Operand.TheVariants.{Const, Eq, Past}
use Rattle.pr_flat.specs.declared.equations.Op.{Op}
use Rattle.pr_flat.specs.declared.equations.Op.TheVariants.{Input, Delay, Rec, Fit}
use Rattle.pr_flat.specs.declared.forms.Point.{Point}
use Rattle.pr_flat.specs.Forms.{number_width, residue, value}
use Rattle.pr_flat.specs.Shape.{EquationShape}
use Rattle.pr_flat.specs.Facts.{is_input, is_lawful_operand, IsFlat}
use Rattle.pr_flat.specs.Widths.{operand_width, AreWidths}
use Rattle.pr_flat.specs.Values.{Sight, init_of, initial_of, number_before, operand_number, points_in, operator_number, recurrence_number, number_in, row_of, rows_after, rows_of}
use Rattle.pr_flat.proofs.FormLemmas.{residue-lt, residue-pos}
use Rattle.pr_flat.proofs.WidthLemmas.{past_of, equation_at}
use Rattle.pr_flat.proofs.ValueLemmas.{row_of-at, length-row_of}
use Rattle.pr_flat_ops.proofs.Values.{value_unsigned}
use Rattle.pr_narrow.specs.Known.{is_steady, known_number, known_of, number_shape, folded_shape, folded}
use Rattle.pr_narrow.proofs.Folding.{is_known, known_of-at, known_at, known_in_rows, width_read}
use Rattle.pr_narrow.proofs.FoldedFlat.{folded-at, length-folded, folded_flat, unsteady}

-- the number that begins a recurrence stays
initial_stays : (equations : List EquationShape) (outputs : List Operand) (widths : List ℕ) (rec init first : ℕ) (x : EquationShape) → IsFlat equations outputs → AreWidths equations widths → slice_get equations rec ≡ Some x → x.op ≡ Rec init first → initial_of (folded equations widths) rec ≡ initial_of equations rec
initial_stays equations outputs widths rec init first x flat all there op =
    let value = λ (o : Option EquationShape). option_map_or (λ (e : EquationShape). init_of e.op) o 0 in
    let none = unsteady widths (known_of equations widths) (unwrap_or (slice_get widths rec) 0) x (ap is_steady op) in
    ap value (folded-at equations outputs widths rec x flat all there) ∙ ap (λ (o : Option ℕ). init_of (folded_shape o (get_or widths rec 0) x).op) none ∙ ap value (sym there)

operand_agrees : (equations : List EquationShape) (outputs : List Operand) (widths : List ℕ) (before : List (List ℕ)) (row other : List ℕ) (i : ℕ) (a : Operand) → IsFlat equations outputs → AreWidths equations widths → is_lawful_operand equations i a ≡ true → ((j : ℕ) → j < i → get_or other j 0 ≡ get_or row j 0) → operand_number (folded equations widths) before other a ≡ operand_number equations before row a
operand_agrees equations outputs widths before row other i (Const c) flat all lawful same = refl
operand_agrees equations outputs widths before row other i (Eq j) flat all lawful same = same j (ltb-true j i lawful)
operand_agrees equations outputs widths before row other i (Past rec k) flat all lawful same = let p = past_of equations i rec k lawful in ap (number_before before rec k) (initial_stays equations outputs widths rec p.init p.first p.equation flat all p.there p.op)

points_agree : (equations : List EquationShape) (outputs : List Operand) (widths : List ℕ) (before : List (List ℕ)) (sample row other : List ℕ) (i : ℕ) (args : List Operand) (kinds : List Bool) → IsFlat equations outputs → AreWidths equations widths → list_all (is_lawful_operand equations i) args ≡ true → ((j : ℕ) → j < i → get_or other j 0 ≡ get_or row j 0) → points_in (record { equations = folded equations widths; widths = widths; before = before; sample = sample; row = other }) args kinds ≡ points_in (record { equations = equations; widths = widths; before = before; sample = sample; row = row }) args kinds
points_agree equations outputs widths before sample row other i [] kinds flat all lawful same = refl
points_agree equations outputs widths before sample row other i (a ∷ args) [] flat all lawful same = refl
points_agree equations outputs widths before sample row other i (a ∷ args) (kind ∷ kinds) flat all lawful same =
    let parts = and_parts (is_lawful_operand equations i a) (list_all (is_lawful_operand equations i) args) lawful in
    ap₂ (λ (n : ℕ) (points : List Point). record { form = record { signed = kind; width = operand_width widths a }; number = n } ∷ points) (operand_agrees equations outputs widths before row other i a flat all parts.0 same) (points_agree equations outputs widths before sample row other i args kinds flat all parts.1 same)

pub input_folds : (widths : List ℕ) (known : List (Option ℕ)) (w v : ℕ) (e : EquationShape) (o : Option ℕ) → known_number widths known w e ≡ o → is_input (folded_shape o v e).op ≡ is_input e.op
input_folds widths known w v e None is = refl
input_folds widths known w v e (Some n) is = let k = is_known widths known w n e is in sym (other e.op k.steady) where
  other : (op : Op) → is_steady op ≡ true → is_input op ≡ false
  other Input steady = absurd (let no : false ≡ true = steady in cc)
  other op steady = refl

-- as many inputs come first
counts_agree : (xs ys : List EquationShape) (i : ℕ) → length ys ≡ length xs → ((k : ℕ) (x y : EquationShape) → slice_get xs k ≡ Some x → slice_get ys k ≡ Some y → is_input y.op ≡ is_input x.op) → count_by (λ (e : EquationShape). is_input e.op) (take i ys) ≡ count_by (λ (e : EquationShape). is_input e.op) (take i xs)
counts_agree xs ys zero count same = refl
counts_agree [] [] (suc i) count same = refl
counts_agree (x ∷ xs) (y ∷ ys) (suc i) count same =
    let one = λ (e : EquationShape). cond (is_input e.op) 1 0 in
    let shorter : length ys ≡ length xs = omega arith in
    sum_by-cons one y (take i ys) ∙ ap₂ (λ m n. m + n) (ap (λ b. cond b 1 0) (same 0 x y refl refl)) (counts_agree xs ys i shorter (λ k u v there at. same (suc k) u v there at)) ∙ sym (sum_by-cons one x (take i xs))
counts_agree [] (y ∷ ys) (suc i) count same = absurd (omega arith)
counts_agree (x ∷ xs) [] (suc i) count same = absurd (omega arith)

inputs_agree : (equations : List EquationShape) (outputs : List Operand) (widths : List ℕ) (i : ℕ) → IsFlat equations outputs → AreWidths equations widths → count_by (λ (e : EquationShape). is_input e.op) (take i (folded equations widths)) ≡ count_by (λ (e : EquationShape). is_input e.op) (take i equations)
inputs_agree equations outputs widths i flat all = counts_agree equations (folded equations widths) i (length-folded equations outputs widths all) (λ k x y there at.
    let o = known_number widths (known_of equations widths) (unwrap_or (slice_get widths k) 0) x in
    let is : Some (folded_shape o (get_or widths k 0) x) ≡ Some y = sym (folded-at equations outputs widths k x flat all there) ∙ at in
    let same : folded_shape o (get_or widths k 0) x ≡ y = cc in
    let P : EquationShape → Type 0 = λ z. is_input z.op ≡ is_input x.op in
    subst P same (input_folds widths (known_of equations widths) (unwrap_or (slice_get widths k) 0) (get_or widths k 0) x o refl))

number_agrees : (equations : List EquationShape) (outputs : List Operand) (widths : List ℕ) (before : List (List ℕ)) (sample row other : List ℕ) (i : ℕ) (op : Op) (args : List Operand) (kinds : List Bool) → IsFlat equations outputs → AreWidths equations widths → list_all (is_lawful_operand equations i) args ≡ true → ((j : ℕ) → j < i → get_or other j 0 ≡ get_or row j 0) → number_in (record { equations = folded equations widths; widths = widths; before = before; sample = sample; row = other }) i op args kinds ≡ number_in (record { equations = equations; widths = widths; before = before; sample = sample; row = row }) i op args kinds
number_agrees equations outputs widths before sample row other i Input args kinds flat all lawful same = ap (λ n. get_or sample n 0) (inputs_agree equations outputs widths i flat all)
number_agrees equations outputs widths before sample row other i (Delay c) [] kinds flat all lawful same = refl
number_agrees equations outputs widths [] sample row other i (Delay c) (a ∷ args) kinds flat all lawful same = refl
number_agrees equations outputs widths (r ∷ before) sample row other i (Delay c) (a ∷ args) kinds flat all lawful same = operand_agrees equations outputs widths before r r i a flat all (and_parts (is_lawful_operand equations i a) (list_all (is_lawful_operand equations i) args) lawful).0 (λ j low. refl)
number_agrees equations outputs widths before sample row other i (Rec init first) args kinds flat all lawful same = ap (recurrence_number (get_or widths i 0)) (points_agree equations outputs widths before sample row other i args kinds flat all lawful same)
number_agrees equations outputs widths before sample row other i op args kinds flat all lawful same = ap (operator_number (get_or widths i 0) op) (points_agree equations outputs widths before sample row other i args kinds flat all lawful same)

-- a number folded in is that number
number_is : (w n : ℕ) (sight : Sight) (i : ℕ) → n < 2 ^ w → get_or sight.widths i 0 ≡ w → number_in sight i Fit (Const n ∷ []) (false ∷ []) ≡ n
number_is w n sight i small is = ap (λ v. residue v (value_at_number n)) is ∙ ap (residue w) (value_unsigned (record { signed = false; width = number_width n }) n refl) ∙ residue-pos w n ∙ mod-eq_of_lt small where
  value_at_number : (m : ℕ) → ℤ
  value_at_number m = value (record { signed = false; width = number_width m }) m

here_agrees : (equations : List EquationShape) (outputs : List Operand) (widths : List ℕ) (before : List (List ℕ)) (sample : List ℕ) (i : ℕ) (e : EquationShape) (o : Option ℕ) → IsFlat equations outputs → AreWidths equations widths → slice_get equations i ≡ Some e → known_number widths (known_of equations widths) (unwrap_or (slice_get widths i) 0) e ≡ o → slice_get (folded equations widths) i ≡ Some (folded_shape o (get_or widths i 0) e) → ((j : ℕ) → j < i → get_or (row_of (folded equations widths) widths before sample) j 0 ≡ get_or (row_of equations widths before sample) j 0) → get_or (row_of (folded equations widths) widths before sample) i 0 ≡ get_or (row_of equations widths before sample) i 0
here_agrees equations outputs widths before sample i e None flat all there is at below =
    row_of-at (folded equations widths) outputs widths before sample i e (folded_flat equations outputs widths flat all) at
    ∙ number_agrees equations outputs widths before sample (row_of equations widths before sample) (row_of (folded equations widths) widths before sample) i e.op e.args e.kinds flat all (flat.operands i e there) below
    ∙ sym (row_of-at equations outputs widths before sample i e flat there)
here_agrees equations outputs widths before sample i e (Some n) flat all there is at below =
    let w = unwrap_or (slice_get widths i) 0 in
    let k = is_known widths (known_of equations widths) w n e is in
    let read = width_read widths i in
    let low : operator_number w e.op k.points < 2 ^ w = residue-lt w _ in
    let same = k.number in
    let small : n < 2 ^ w = omega arith in
    let P : ℕ → Type 0 = λ v. n < 2 ^ v in
    let known : known_at (known_of equations widths) i ≡ Some n = ap (λ (x : Option (Option ℕ)). option_map_or (λ o. o) x None) (known_of-at equations widths i e there (flat.operands i e there)) ∙ is in
    row_of-at (folded equations widths) outputs widths before sample i (number_shape n (get_or widths i 0)) (folded_flat equations outputs widths flat all) at
    ∙ number_is (get_or widths i 0) n (record { equations = folded equations widths; widths = widths; before = before; sample = sample; row = row_of (folded equations widths) widths before sample }) i (subst P read small) refl
    ∙ sym (known_in_rows equations outputs widths before sample flat (suc i) i n (omega arith) (slice_get_within equations i e there) known)

below_agree : (equations : List EquationShape) (outputs : List Operand) (widths : List ℕ) (before : List (List ℕ)) (sample : List ℕ) → IsFlat equations outputs → AreWidths equations widths → (m i : ℕ) → i < m → i < length equations → get_or (row_of (folded equations widths) widths before sample) i 0 ≡ get_or (row_of equations widths before sample) i 0
below_agree equations outputs widths before sample flat all zero i low within = absurd (omega arith)
below_agree equations outputs widths before sample flat all (suc m) i low within =
    let found = equation_at equations i within in
    here_agrees equations outputs widths before sample i found.0 (known_number widths (known_of equations widths) (unwrap_or (slice_get widths i) 0) found.0) flat all found.1 refl (folded-at equations outputs widths i found.0 flat all found.1) (λ j less. below_agree equations outputs widths before sample flat all m j (omega arith) (omega arith))

-- each row is the same
pub row_agrees : (equations : List EquationShape) (outputs : List Operand) (widths : List ℕ) (before : List (List ℕ)) (sample : List ℕ) → IsFlat equations outputs → AreWidths equations widths → row_of (folded equations widths) widths before sample ≡ row_of equations widths before sample
row_agrees equations outputs widths before sample flat all =
    let one = length-row_of (folded equations widths) widths before sample in
    let other = length-row_of equations widths before sample in
    let same = length-folded equations outputs widths all in
    same_number_lists (row_of (folded equations widths) widths before sample) (row_of equations widths before sample) (one ∙ same ∙ sym other) (λ i low. below_agree equations outputs widths before sample flat all (suc i) i (omega arith) (omega (arith, one, same)))

rows_agree : (equations : List EquationShape) (outputs : List Operand) (widths : List ℕ) (before samples : List (List ℕ)) → IsFlat equations outputs → AreWidths equations widths → rows_after (folded equations widths) widths before samples ≡ rows_after equations widths before samples
rows_agree equations outputs widths before [] flat all = refl
rows_agree equations outputs widths before (s ∷ samples) flat all =
    let row = row_of equations widths before s in
    let same = row_agrees equations outputs widths before s flat all in
    ap (λ (r : List ℕ). r ∷ rows_after (folded equations widths) widths (r ∷ before) samples) same ∙ ap (λ (rs : List (List ℕ)). row ∷ rs) (rows_agree equations outputs widths (row ∷ before) samples flat all)

pub rows_of-agree : (equations : List EquationShape) (outputs : List Operand) (widths : List ℕ) (samples : List (List ℕ)) → IsFlat equations outputs → AreWidths equations widths → rows_of (folded equations widths) widths samples ≡ rows_of equations widths samples
rows_of-agree equations outputs widths samples flat all = rows_agree equations outputs widths [] samples flat all
