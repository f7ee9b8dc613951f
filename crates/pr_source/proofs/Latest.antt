-- Rows by the latest of the rows before them.
use Rattle.std.proofs.Common.{◌≡◌, ℕ, zero, suc, ◌+◌, ◌-◌, ◌<◌, ◌≤◌, min, Bool, true, ◌&&◌, nat_le, nat_lt, Option, List, [], ◌∷◌, ◌++◌, length, reverse, set, take, drop, get_or, refl, sym, ◌∙◌, ap, ap₂, inl, inr, arith, append_assoc}
use Rattle.std.specs.List.{slice_get, list_all}
use Rattle.std.specs.Option.{option_map_or}
use Rattle.std.proofs.lemmas.Bool.{and_parts, and_from, cases_lt, ltb-true, leb-true}
use Rattle.std.proofs.lemmas.Grind.{reverse_onto}
use Rattle.std.proofs.lemmas.List.{append-nil, drop_all, drop_more, length-take, take-take, take_all}
use Rattle.pr_flat.specs.declared.equations.Operand.{Operand}
use Rattle.pr_flat.specs.declared.equations.Operand.TheVariants.{Const, Eq, Past}
use Rattle.pr_flat.specs.declared.equations.Op.{Op}
use Rattle.pr_flat.specs.declared.equations.Op.TheVariants.{Input, Delay, Rec}
use Rattle.pr_flat.specs.declared.forms.Point.{Point}
use Rattle.pr_flat.specs.Shape.{EquationShape, EachEquation}
use Rattle.pr_flat.specs.Facts.{is_lawful_operand, IsFlat}
use Rattle.pr_flat.specs.Widths.{operand_width}
use Rattle.pr_flat.specs.Values.{Sight, initial_of, operand_number, delayed_number, points_in, operator_number, recurrence_number, number_in, row_after, row_of, rows_after, rows_of}
use Rattle.pr_source.specs.Keeping.{is_near, AreNear}

slice_get-take : {X : Type 0} → (n : ℕ) (xs : List X) (i : ℕ) → i < n → slice_get (take n xs) i ≡ slice_get xs i
slice_get-take zero xs i less = absurd (omega arith)
slice_get-take (suc n) [] i less = refl
slice_get-take (suc n) (x ∷ xs) zero less = refl
slice_get-take (suc n) (x ∷ xs) (suc i) less = slice_get-take n xs i (omega arith)

-- a past is one of an earlier row, and lies within so many
abbrev pub is_behind : ℕ → Operand → Bool
is_behind slots (Const c) = true
is_behind slots (Eq i) = true
is_behind slots (Past rec k) = nat_le 1 k && nat_lt k slots

one-behind : (equations : List EquationShape) (i slots : ℕ) (a : Operand) → is_lawful_operand equations i a ≡ true → is_near slots a ≡ true → is_behind slots a ≡ true
one-behind equations i slots (Const c) lawful near = refl
one-behind equations i slots (Eq j) lawful near = refl
one-behind equations i slots (Past rec k) lawful near = and_from (nat_le 1 k) (nat_lt k slots) (and_parts (nat_le 1 k) _ lawful).0 near

all-behind : (equations : List EquationShape) (i slots : ℕ) (args : List Operand) → list_all (is_lawful_operand equations i) args ≡ true → list_all (is_near slots) args ≡ true → list_all (is_behind slots) args ≡ true
all-behind equations i slots [] lawful near = refl
all-behind equations i slots (a ∷ args) lawful near =
    let l = and_parts (is_lawful_operand equations i a) (list_all (is_lawful_operand equations i) args) lawful in
    let n = and_parts (is_near slots a) (list_all (is_near slots) args) near in
    and_from (is_behind slots a) (list_all (is_behind slots) args) (one-behind equations i slots a l.0 n.0) (all-behind equations i slots args l.1 n.1)

-- the number of an operand, by the latest rows before
operand-latest : (equations : List EquationShape) (slots : ℕ) (before : List (List ℕ)) (row : List ℕ) (a : Operand) → is_behind slots a ≡ true → operand_number equations (take slots before) row a ≡ operand_number equations before row a
operand-latest equations slots before row (Const c) near = refl
operand-latest equations slots before row (Eq i) near = refl
operand-latest equations slots before row (Past rec k) near =
    let less = ltb-true k slots (and_parts (nat_le 1 k) (nat_lt k slots) near).1 in
    ap (λ (o : Option (List ℕ)). option_map_or (λ (r : List ℕ). get_or r rec 0) o (initial_of equations rec)) (slice_get-take slots before (k - 1) (omega arith))

delayed-latest : (equations : List EquationShape) (slots : ℕ) (before : List (List ℕ)) (a : Operand) (c : ℕ) → 1 ≤ slots → is_behind slots a ≡ true → delayed_number equations (take slots before) a c ≡ delayed_number equations before a c
delayed-latest equations zero before a c some near = absurd (omega arith)
delayed-latest equations (suc slots) [] a c some near = refl
delayed-latest equations (suc slots) (row ∷ before) (Const q) c some near = refl
delayed-latest equations (suc slots) (row ∷ before) (Eq i) c some near = refl
delayed-latest equations (suc slots) (row ∷ before) (Past rec k) c some near =
    let parts = and_parts (nat_le 1 k) (nat_lt k (suc slots)) near in
    let less = ltb-true k (suc slots) parts.1 in
    let more = leb-true 1 k parts.0 in
    ap (λ (o : Option (List ℕ)). option_map_or (λ (r : List ℕ). get_or r rec 0) o (initial_of equations rec)) (slice_get-take slots before (k - 1) (omega arith))

-- what equations see, after these rows
sight : List EquationShape → List ℕ → List ℕ → List (List ℕ) → List ℕ → Sight
sight equations widths sample before row = record { equations = equations; widths = widths; before = before; sample = sample; row = row }

points-latest : (equations : List EquationShape) (widths sample : List ℕ) (slots : ℕ) (before : List (List ℕ)) (row : List ℕ) (args : List Operand) (kinds : List Bool) → list_all (is_behind slots) args ≡ true → points_in (sight equations widths sample (take slots before) row) args kinds ≡ points_in (sight equations widths sample before row) args kinds
unfolding sight
points-latest equations widths sample slots before row [] kinds near = refl
points-latest equations widths sample slots before row (a ∷ args) [] near = refl
points-latest equations widths sample slots before row (a ∷ args) (kind ∷ kinds) near =
    let parts = and_parts (is_behind slots a) (list_all (is_behind slots) args) near in
    ap₂ (λ (n : ℕ) (points : List Point). record { form = record { signed = kind; width = operand_width widths a }; number = n } ∷ points) (operand-latest equations slots before row a parts.0) (points-latest equations widths sample slots before row args kinds parts.1)

number-latest : (equations : List EquationShape) (widths sample : List ℕ) (slots : ℕ) (before : List (List ℕ)) (row : List ℕ) (i : ℕ) (op : Op) (args : List Operand) (kinds : List Bool) → 1 ≤ slots → list_all (is_behind slots) args ≡ true → number_in (sight equations widths sample (take slots before) row) i op args kinds ≡ number_in (sight equations widths sample before row) i op args kinds
unfolding sight
number-latest equations widths sample slots before row i Input args kinds some near = refl
number-latest equations widths sample slots before row i (Delay c) [] kinds some near = refl
number-latest equations widths sample slots before row i (Delay c) (a ∷ args) kinds some near = delayed-latest equations slots before a c some (and_parts (is_behind slots a) (list_all (is_behind slots) args) near).0
number-latest equations widths sample slots before row i (Rec init first) args kinds some near = ap (recurrence_number (get_or widths i 0)) (points-latest equations widths sample slots before row args kinds near)
number-latest equations widths sample slots before row i op args kinds some near = ap (operator_number (get_or widths i 0) op) (points-latest equations widths sample slots before row args kinds near)

row_after-latest : (equations : List EquationShape) (widths sample : List ℕ) (slots : ℕ) (before : List (List ℕ)) (row : List ℕ) (rest : List EquationShape) → 1 ≤ slots → EachEquation rest (λ k e. list_all (is_behind slots) e.args ≡ true) → row_after (sight equations widths sample (take slots before) row) rest ≡ row_after (sight equations widths sample before row) rest
unfolding sight
row_after-latest equations widths sample slots before row [] some near = refl
row_after-latest equations widths sample slots before row (e ∷ rest) some near =
    let n = number_in (sight equations widths sample before row) (length row) e.op e.args e.kinds in
    ap (λ (m : ℕ). row_after (sight equations widths sample (take slots before) (row ++ m ∷ [])) rest) (number-latest equations widths sample slots before row (length row) e.op e.args e.kinds some (near 0 e refl))
    ∙ row_after-latest equations widths sample slots before (row ++ n ∷ []) rest some (λ k d there. near (suc k) d there)

-- a row, by the latest rows before
pub row_of-latest : (equations : List EquationShape) (outputs : List Operand) (widths : List ℕ) (slots : ℕ) (before : List (List ℕ)) (sample : List ℕ) → IsFlat equations outputs → 1 ≤ slots → AreNear slots equations → row_of equations widths (take slots before) sample ≡ row_of equations widths before sample
unfolding sight
row_of-latest equations outputs widths slots before sample flat some near = row_after-latest equations widths sample slots before [] equations some (λ k e there. all-behind equations k slots e.args (flat.operands k e there) (near k e there))

rows_after-more : (equations : List EquationShape) (widths : List ℕ) (before samples : List (List ℕ)) (sample : List ℕ) → rows_after equations widths before (samples ++ sample ∷ []) ≡ rows_after equations widths before samples ++ row_of equations widths (reverse (rows_after equations widths before samples) ++ before) sample ∷ []
rows_after-more equations widths before [] sample = refl
rows_after-more equations widths before (s ∷ samples) sample =
    let row = row_of equations widths before s in
    let later = rows_after equations widths (row ∷ before) samples in
    ap (λ (rows : List (List ℕ)). row ∷ rows) (rows_after-more equations widths (row ∷ before) samples sample)
    ∙ ap (λ (x : List (List ℕ)). row ∷ (later ++ row_of equations widths x sample ∷ [])) (sym (ap (λ (x : List (List ℕ)). x ++ before) (reverse_onto later row []) ∙ append_assoc (reverse later) (row ∷ []) before))

-- the rows of one sample more
pub rows_of-more : (equations : List EquationShape) (widths : List ℕ) (samples : List (List ℕ)) (sample : List ℕ) → rows_of equations widths (samples ++ sample ∷ []) ≡ rows_of equations widths samples ++ row_of equations widths (reverse (rows_of equations widths samples)) sample ∷ []
rows_of-more equations widths samples sample = rows_after-more equations widths [] samples sample ∙ ap (λ (x : List (List ℕ)). rows_of equations widths samples ++ row_of equations widths x sample ∷ []) (append-nil (reverse (rows_of equations widths samples)))

-- the latest of rows with one row more, by the latest rows
pub latest-more : {X : Type 0} → (slots : ℕ) (row : X) (rows : List X) → take slots (row ∷ take slots rows) ≡ take slots (row ∷ rows)
latest-more zero row rows = refl
latest-more (suc slots) row rows = ap (λ (ys : List _). row ∷ ys) (take-take slots (suc slots) rows (omega arith))

-- a list turned right by one, with another element in the first place
pub turned : {X : Type 0} → (xs : List X) (n : ℕ) (x d : X) → n ≡ length xs → 1 ≤ n → set (drop (n - 1) xs ++ take (n - 1) xs) 0 x ≡ x ∷ take (n - 1) xs
turned xs n x d is some =
    let last : drop (n - 1) xs ≡ get_or xs (n - 1) d ∷ [] = drop_more xs (n - 1) d (omega arith) ∙ ap (λ (ys : List _). get_or xs (n - 1) d ∷ ys) (drop_all (n - 1 + 1) xs (omega arith)) in
    ap (λ (ys : List _). set (ys ++ take (n - 1) xs) 0 x) last

-- the rows that are kept, with one row more
pub kept-more : {X : Type 0} → (slots filled : ℕ) (x : X) (xs : List X) → 1 ≤ slots → filled ≤ slots → take (min (filled + 1) slots) (x ∷ take (slots - 1) xs) ≡ take slots (x ∷ take filled xs)
kept-more zero filled x xs some within = absurd (omega arith)
kept-more (suc slots) filled x xs some within =
    let one : suc slots - 1 ≡ slots = omega arith in
    rw one (elim (cases_lt filled (suc slots)) [
      | inl less ↦ (let count : min (filled + 1) (suc slots) ≡ suc filled = omega arith in
          let short : length (take filled xs) ≤ slots = omega (arith, length-take filled xs) in
          rw count (ap (λ (ys : List _). x ∷ ys) (take-take filled slots xs (omega arith) ∙ sym (take_all slots (take filled xs) short))))
      | inr more ↦ (let count : min (filled + 1) (suc slots) ≡ suc slots = omega arith in
          rw count (ap (λ (ys : List _). x ∷ ys) (take-take slots slots xs (omega arith) ∙ sym (take-take slots filled xs (omega arith)))))
    ])
