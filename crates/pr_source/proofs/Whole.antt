-- The numbers of rows have the bits of their equations' widths.
use mir.Val.{bool_byte}
use Rattle.std.specs.Ordering.{nat_cmp, ord_max}
use Rattle.std.proofs.Common.{rules, max, ◌≡◌, ℕ, zero, suc, ◌+◌, ◌-◌, ◌^◌, ◌<◌, ◌≤◌, Bool, true, false, ◌&&◌, cond, count_by, unwrap_or, Option, Some, None, List, [], ◌∷◌, ◌++◌, length, take, drop, set, get_or, refl, sym, ◌∙◌, ap, subst, arith}
use Rattle.std.specs.List.{slice_get, list_all}
use Rattle.std.specs.Option.{option_map_or}
use Rattle.std.proofs.lemmas.Bool.{and_from, and_parts, ltb-true}
use Rattle.std.proofs.lemmas.List.{drop_more, take_more_set}
use Rattle.std.proofs.lemmas.List.Sums.{count_by_more_no, count_by_more_yes, sum_by-cons}
use Rattle.std.proofs.lemmas.Option.{slice_get_within, get_or_from_slice_get}
use Rattle.pr_base.specs.Rows.{IsRow}
use Rattle.pr_flat.specs.declared.equations.Operand.{Operand}
use Rattle.pr_flat.specs.declared.equations.Operand.TheVariants.{Const, Eq, Past}
use Rattle.pr_flat.specs.Shape.{EquationShape}
use Rattle.pr_flat.specs.Facts.{is_input, is_lawful_operand, IsFlat}
use Rattle.pr_flat.specs.Widths.{operand_width, AreWidths}
use Rattle.pr_flat.specs.Values.{init_of, initial_of, input_widths, number_before, operand_number, number_in, row_after, row_of}
use Rattle.pr_flat.specs.Laws.{AllHaveWidths}
use Rattle.pr_flat.proofs.NumberLemmas.{number_width-holds, initial-holds, row_of-holds, IsSampleFor-from_IsRow}
use Rattle.pr_flat.proofs.ValueLemmas.{row_after-kept, length-row_of}
use Rattle.pr_flat.proofs.WidthLemmas.{PastOf, past_of}
use Rattle.pr_source.specs.Reading.{IsWhole, IsPast, AreNumbers}

whole_at : (equations : List EquationShape) (widths : List ℕ) (before : List (List ℕ)) (n : ℕ) (row : List ℕ) → IsPast equations widths before → slice_get before n ≡ Some row → IsWhole equations widths row
whole_at equations widths before n row past at = subst (IsWhole equations widths) (get_or_from_slice_get before n row row at) (past n row (slice_get_within before n row at))

all_have : (equations : List EquationShape) (widths : List ℕ) (before : List (List ℕ)) → IsPast equations widths before → AllHaveWidths widths before
all_have equations widths before past n row at = (whole_at equations widths before n row past at).fits

-- the row of a lawful sample is whole
pub row_whole : (equations : List EquationShape) (outputs : List Operand) (widths : List ℕ) (before : List (List ℕ)) (sample : List ℕ) → IsFlat equations outputs → AreWidths equations widths → IsPast equations widths before → IsRow (input_widths equations) sample → IsWhole equations widths (row_of equations widths before sample)
row_whole equations outputs widths before sample flat wide past lawful = record {
  count = length-row_of equations widths before sample;
  fits = row_of-holds equations outputs widths before sample flat wide (all_have equations widths before past) (IsSampleFor-from_IsRow equations outputs widths sample flat wide lawful);
}

-- and so are the numbers that it begins with
pub first_numbers : (equations : List EquationShape) (outputs : List Operand) (widths : List ℕ) (before : List (List ℕ)) (sample row : List ℕ) (rest : List EquationShape) → IsFlat equations outputs → AreWidths equations widths → IsPast equations widths before → IsRow (input_widths equations) sample → length row ≤ length equations → row_after (record { equations = equations; widths = widths; before = before; sample = sample; row = row }) rest ≡ row_of equations widths before sample → AreNumbers equations outputs widths before row
first_numbers equations outputs widths before sample row rest flat wide past lawful within is = record {
  flat = flat;
  wide = wide;
  past = past;
  fits = λ i low.
      let same : get_or (row_of equations widths before sample) i 0 ≡ get_or row i 0 = ap (λ (r : List ℕ). get_or r i 0) (sym is) ∙ row_after-kept (record { equations = equations; widths = widths; before = before; sample = sample; row = row }) rest i low in
      subst (λ (n : ℕ). n < 2 ^ get_or widths i 0) same ((row_whole equations outputs widths before sample flat wide past lawful).fits i (omega (arith, wide.count)));
}

past_below : (equations : List EquationShape) (outputs : List Operand) (widths : List ℕ) (before : List (List ℕ)) (row : List ℕ) (rec k : ℕ) → AreNumbers equations outputs widths before row → PastOf equations (length row) rec → number_before before rec k (initial_of equations rec) < 2 ^ get_or widths rec 0
past_below equations outputs widths before row rec k numbers p = by_row (slice_get before (k - 1)) refl where
  within : rec < length widths
  within = omega (arith, slice_get_within equations rec p.equation p.there, numbers.wide.count)

  initial : initial_of equations rec ≡ p.init
  initial = ap (λ (o : Option EquationShape). option_map_or (λ (e : EquationShape). init_of e.op) o 0) p.there ∙ ap init_of p.op

  by_row : (o : Option (List ℕ)) → slice_get before (k - 1) ≡ o → option_map_or (λ (r : List ℕ). get_or r rec 0) (slice_get before (k - 1)) (initial_of equations rec) < 2 ^ get_or widths rec 0
  by_row None is = rw is (rw initial (initial-holds equations outputs widths rec p.init p.first p.equation numbers.flat numbers.wide p.there p.op))
  by_row (Some r) is = rw is ((whole_at equations widths before (k - 1) r numbers.past is).fits rec within)

-- an operand's number has the bits of its width
pub operand_below : (equations : List EquationShape) (outputs : List Operand) (widths : List ℕ) (before : List (List ℕ)) (row : List ℕ) (a : Operand) → AreNumbers equations outputs widths before row → is_lawful_operand equations (length row) a ≡ true → operand_number equations before row a < 2 ^ operand_width widths a
operand_below equations outputs widths before row (Const c) numbers lawful = number_width-holds c (ltb-true c (2 ^ 64) lawful)
operand_below equations outputs widths before row (Eq i) numbers lawful = numbers.fits i (ltb-true i (length row) lawful)
operand_below equations outputs widths before row (Past rec k) numbers lawful = past_below equations outputs widths before row rec k numbers (past_of equations (length row) rec k lawful)

-- one number more of a row
pub row_more : (equations : List EquationShape) (widths : List ℕ) (before : List (List ℕ)) (sample row : List ℕ) (i n : ℕ) (e : EquationShape) (whole : List ℕ) → i < length row → slice_get equations i ≡ Some e
    → n ≡ number_in (record { equations = equations; widths = widths; before = before; sample = sample; row = take i row }) (length (take i row)) e.op e.args e.kinds
    → row_after (record { equations = equations; widths = widths; before = before; sample = sample; row = take i row }) (drop i equations) ≡ whole
    → row_after (record { equations = equations; widths = widths; before = before; sample = sample; row = take (i + 1) (set row i n) }) (drop (i + 1) equations) ≡ whole
row_more equations widths before sample row i n e whole within there is rest =
    let first : drop i equations ≡ e ∷ drop (i + 1) equations = drop_more equations i e (slice_get_within equations i e there) ∙ ap (λ (x : EquationShape). x ∷ drop (i + 1) equations) (get_or_from_slice_get equations i e e there) in
    let after : List ℕ → List EquationShape → List ℕ = λ r. row_after (record { equations = equations; widths = widths; before = before; sample = sample; row = r }) in
    ap (λ (r : List ℕ). after r (drop (i + 1) equations)) (take_more_set row i n within ∙ ap (λ (m : ℕ). take i row ++ m ∷ []) is)
    ∙ (sym (ap (after (take i row)) first) ∙ rest)

-- a sample has a number for each input
pub input_within : (equations : List EquationShape) (sample : List ℕ) (i : ℕ) (e : EquationShape) → IsRow (input_widths equations) sample → slice_get equations i ≡ Some e → is_input e.op ≡ true → count_by (λ (d : EquationShape). is_input d.op) (take i equations) < length sample
input_within [] sample i e lawful there is = cc
input_within (d ∷ equations) sample zero e lawful there is =
    let same : d ≡ e = cc in
    first sample (is_input d.op) (subst (λ (x : EquationShape). is_input x.op ≡ true) (sym same) is) lawful where
      first : (numbers : List ℕ) (b : Bool) → b ≡ true → IsRow (cond b (unwrap_or d.declared 0 ∷ input_widths equations) (input_widths equations)) numbers → 0 < length numbers
      first [] true given row = absurd row
      first (n ∷ numbers) true given row = omega arith
      first numbers false given row = cc
input_within (d ∷ equations) sample (suc i) e lawful there is =
    let count = sum_by-cons (λ (x : EquationShape). cond (is_input x.op) 1 0) d (take i equations) in
    subst (λ (k : ℕ). k < length sample) (sym count) (rest sample (is_input d.op) lawful (λ numbers row. input_within equations numbers i e row there is)) where
      rest : (numbers : List ℕ) (b : Bool) → IsRow (cond b (unwrap_or d.declared 0 ∷ input_widths equations) (input_widths equations)) numbers → ((more : List ℕ) → IsRow (input_widths equations) more → count_by (λ (x : EquationShape). is_input x.op) (take i equations) < length more) → cond b 1 0 + count_by (λ (x : EquationShape). is_input x.op) (take i equations) < length numbers
      rest [] true row later = absurd row
      rest (n ∷ numbers) true row later = let low = later numbers row.1 in omega arith
      rest numbers false row later = let low = later numbers row in omega arith

-- how many elements pass a test, with one element more
pub count_more : {X : Type 0} → (p : X → Bool) (xs : List X) (i : ℕ) (d : X) (b : Bool) (n m : ℕ) → i < length xs → p (get_or xs i d) ≡ b → n ≡ count_by p (take i xs) → m ≡ cond b 1 0 → n + m ≡ count_by p (take (i + 1) xs)
count_more p xs i d true n m within is before more = let step = count_by_more_yes p xs i d within is in omega arith
count_more p xs i d false n m within is before more = let step = count_by_more_no p xs i d within is in omega arith

-- a test of all elements, with one element more
pub all_more : {X : Type 0} → (p : X → Bool) (xs : List X) (i : ℕ) (x : X) → i < length xs → x ≡ get_or xs i x → list_all p (take i xs) ≡ true → p x ≡ true → list_all p (take (i + 1) xs) ≡ true
all_more p [] i x within is before here = absurd (omega arith)
all_more p (y ∷ ys) zero x within is before here = ap (λ (b : Bool). b && true) (ap p (sym is) ∙ here)
all_more p (y ∷ ys) (suc i) x within is before here =
    let parts = and_parts (p y) (list_all p (take i ys)) before in
    let place : suc i + 1 ≡ suc (i + 1) = omega arith in
    rw place (and_from (p y) (list_all p (take (i + 1) ys)) parts.0 (all_more p ys i x (omega arith) is parts.1 here))

pub all_parts : {X : Type 0} → (p : X → Bool) (xs : List X) (i : ℕ) (x : X) → i < length xs → x ≡ get_or xs i x → list_all p (take (i + 1) xs) ≡ true → (list_all p (take i xs) ≡ true) × (p x ≡ true)
all_parts p [] i x within is all = absurd (omega arith)
all_parts p (y ∷ ys) zero x within is all = (refl, ap p is ∙ (and_parts (p y) (list_all p (take 0 ys)) all).0)
all_parts p (y ∷ ys) (suc i) x within is all =
    let place : suc i + 1 ≡ suc (i + 1) = omega arith in
    let parts = and_parts (p y) (list_all p (take (i + 1) ys)) (ap (λ (n : ℕ). list_all p (take n (y ∷ ys))) (sym place) ∙ all) in
    let rest = all_parts p ys i x (omega arith) is parts.1 in
    (and_from (p y) (list_all p (take i ys)) parts.0 rest.0, rest.1)

pub byte_is : (b : Bool) → bool_byte b ≡ cond b 1 0
byte_is true = refl
byte_is false = refl

-- the greater of two numbers is none less than either
pub record IsMost (a b m : ℕ) : Type 0 where
  pub first : a ≤ m
  pub second : b ≤ m

pub max_of : (a b m : ℕ) → m ≡ ord_max nat_cmp a b → IsMost a b m
max_of a b m is = let greater : ord_max nat_cmp a b ≡ max a b = search rules in record { first = omega arith; second = omega arith }

-- a bound of both is one of the greater
pub most_within : (a b m n : ℕ) → m ≡ ord_max nat_cmp a b → a ≤ n → b ≤ n → m ≤ n
most_within a b m n is la lb = let greater : ord_max nat_cmp a b ≡ max a b = search rules in omega arith
