-- The numbers of equations as one function of the sample and the equation, and what it keeps: how each comes from those of the
-- same sample and of the samples before.
use Rattle.std.proofs.Common.{◌≡◌, ℕ, zero, suc, ◌-◌, ◌^◌, ◌<◌, ◌≤◌, Bool, true, false, cond, nat_le, Option, Some, List, [], ◌∷◌, length, reverse, take, get_or, count_by, refl, sym, ◌∙◌, ap, ap₂, subst, arith, inl, inr, take-suc}
use Rattle.std.specs.List.{slice_get, list_all}
use Rattle.std.specs.Option.{option_map_or}
use Rattle.std.proofs.lemmas.Bool.{and_parts, cases_lt, cond-true, cond-false, lt-leb, le-leb, ltb-true, leb-true}
use Rattle.std.proofs.lemmas.List.{length-reverse, length-take, get_or-reverse, get_or-take, reverse-append}
use Rattle.std.proofs.lemmas.Option.{slice_get_within, slice_get-get_or, slice_get_past, get_or_from_slice_get}
use Rattle.pr_base.specs.Rows.{IsRow}
use Rattle.pr_flat.specs.declared.equations.Operand.{Operand}
use Rattle.pr_flat.specs.declared.equations.Operand.TheVariants.{Const, Eq, Past}
use Rattle.pr_flat.specs.declared.equations.Op.{Op}
use Rattle.pr_flat.specs.declared.equations.Op.TheVariants.{Input, Delay, Rec}
use Rattle.pr_flat.specs.declared.forms.Point.{Point}
use Rattle.pr_flat.specs.Rows.{AreLawful}
use Rattle.pr_flat.specs.Shape.{EquationShape}
use Rattle.pr_flat.specs.Facts.{is_input, is_lawful_operand, is_in_body, op_at, IsFlat}
use Rattle.pr_flat.specs.Widths.{operand_width, AreWidths}
use Rattle.pr_flat.specs.Values.{init_of, initial_of, number_before, operand_number, delayed_number, points_in, Sight, operator_number, recurrence_number, number_in, input_widths, row_of, rows_of}
use Rattle.pr_expand_correct.proofs.Forms.{is_operator}
use Rattle.pr_flat.proofs.ValueLemmas.{row_of-at, rows_of-at, length-rows_after}
use Rattle.pr_flat.proofs.NumberLemmas.{number_width-holds, initial-holds, rows_of-have_widths}
use Rattle.pr_flat.proofs.WidthLemmas.{past_of}

-- equations with their widths, the samples, and the number of each equation at each sample
pub record Run : Type 0 where
  pub equations : List EquationShape
  pub widths : List ℕ
  pub samples : List (List ℕ)
  pub numbers : ℕ → ℕ → ℕ

-- an operand's number at sample n
abbrev pub number_at : Run → ℕ → Operand → ℕ
number_at r n (Const c) = c
number_at r n (Eq i) = r.numbers n i
number_at r n (Past rec k) = cond (nat_le k n) (r.numbers (n - k) rec) (initial_of r.equations rec)

-- an operand's number one sample before sample n, and c before the first sample
abbrev pub number_earlier : Run → ℕ → Operand → ℕ → ℕ
number_earlier r zero a c = c
number_earlier r (suc n) a c = number_at r n a

-- operands at sample n, as they are read
abbrev pub points_at : Run → ℕ → List Operand → List Bool → List Point
points_at r n (a ∷ args) (kind ∷ kinds) = record { form = record { signed = kind; width = operand_width r.widths a }; number = number_at r n a } ∷ points_at r n args kinds
points_at r n args kinds = []

-- which input an input equation is
abbrev pub input_at : Run → ℕ → ℕ
input_at r i = count_by (λ (e : EquationShape). is_input e.op) (take i r.equations)

-- the equation of this number, and what a fact says of it at each sample
abbrev pub AtEach : Run → (ℕ → ℕ → EquationShape → Type 0) → Type 0
AtEach r P = (n i : ℕ) (e : EquationShape) → n < length r.samples → slice_get r.equations i ≡ Some e → P n i e

pub record IsRun (r : Run) : Type 0 where
  pub input : AtEach r (λ n i e. e.op ≡ Input → r.numbers n i ≡ get_or (get_or r.samples n []) (input_at r i) 0)
  pub delay : AtEach r (λ n i e. (c : ℕ) (a : Operand) → e.op ≡ Delay c → e.args ≡ a ∷ [] → r.numbers n i ≡ number_earlier r n a c)
  pub recurrence : AtEach r (λ n i e. (init first : ℕ) → e.op ≡ Rec init first → r.numbers n i ≡ recurrence_number (get_or r.widths i 0) (points_at r n e.args e.kinds))
  pub operator : AtEach r (λ n i e. is_operator e.op ≡ true → r.numbers n i ≡ operator_number (get_or r.widths i 0) e.op (points_at r n e.args e.kinds))
  pub lawful : AtEach r (λ n i e. AreLawful (points_at r n e.args e.kinds))

-- ---- the rows of equations are a run
abbrev pub run_of : List EquationShape → List ℕ → List (List ℕ) → Run
run_of equations widths samples = record { equations = equations; widths = widths; samples = samples; numbers = λ n i. get_or (get_or (rows_of equations widths samples) n []) i 0 }

past_number : (rows : List (List ℕ)) (n rec k init : ℕ) → 1 ≤ k → n ≤ length rows → number_before (reverse (take n rows)) rec k init ≡ cond (nat_le k n) (get_or (get_or rows (n - k) []) rec 0) init
past_number rows n rec k init positive within = elim (cases_lt n k) [
  | inl low ↦ ap (λ (o : Option (List ℕ)). option_map_or (λ row. get_or row rec 0) o init) (slice_get_past before (k - 1) (omega (arith, count))) ∙ sym (cond-false (nat_le k n) number init (lt-leb k n low))
  | inr high ↦ ap (λ (o : Option (List ℕ)). option_map_or (λ row. get_or row rec 0) o init) (slice_get-get_or before (k - 1) [] (omega (arith, count))) ∙ ap (λ (row : List ℕ). get_or row rec 0) (there high) ∙ sym (cond-true (nat_le k n) number init (le-leb k n high))
] where
  before : List (List ℕ)
  before = reverse (take n rows)

  number : ℕ
  number = get_or (get_or rows (n - k) []) rec 0

  taken : length (take n rows) ≡ n
  taken = omega (arith, length-take n rows)

  count : length (reverse (take n rows)) ≡ n
  count = length-reverse (take n rows) ∙ taken

  there : k ≤ n → get_or (reverse (take n rows)) (k - 1) [] ≡ get_or rows (n - k) []
  there high =
      let less : k - 1 < length (take n rows) = omega (arith, taken) in
      let place : length (take n rows) - 1 - (k - 1) ≡ n - k = omega (arith, taken) in
      get_or-reverse (take n rows) (k - 1) [] less ∙ ap (λ j. get_or (take n rows) j []) place ∙ get_or-take n rows (n - k) [] (omega arith)

-- what equations see at sample n
abbrev sight_at : List EquationShape → List ℕ → List (List ℕ) → ℕ → Sight
sight_at equations widths samples n = record { equations = equations; widths = widths; before = reverse (take n (rows_of equations widths samples)); sample = get_or samples n []; row = get_or (rows_of equations widths samples) n [] }

-- an operand that equation i may read
same-operand : (equations : List EquationShape) (widths : List ℕ) (samples : List (List ℕ)) (i n : ℕ) (a : Operand) → n < length samples → is_lawful_operand equations i a ≡ true → operand_number equations (reverse (take n (rows_of equations widths samples))) (get_or (rows_of equations widths samples) n []) a ≡ number_at (run_of equations widths samples) n a
same-operand equations widths samples i n (Const c) within lawful = refl
same-operand equations widths samples i n (Eq j) within lawful = refl
same-operand equations widths samples i n (Past rec k) within lawful = past_number (rows_of equations widths samples) n rec k (initial_of equations rec) (leb-true 1 k (and_parts (nat_le 1 k) (option_map_or (is_in_body i rec) (op_at equations rec) false) lawful).0) (omega (arith, length-rows_after equations widths [] samples))

same-points : (equations : List EquationShape) (widths : List ℕ) (samples : List (List ℕ)) (i n : ℕ) (args : List Operand) (kinds : List Bool) → n < length samples → list_all (is_lawful_operand equations i) args ≡ true → points_in (sight_at equations widths samples n) args kinds ≡ points_at (run_of equations widths samples) n args kinds
same-points equations widths samples i n [] kinds within lawful = refl
same-points equations widths samples i n (a ∷ args) [] within lawful = refl
same-points equations widths samples i n (a ∷ args) (kind ∷ kinds) within lawful =
    let parts = and_parts (is_lawful_operand equations i a) (list_all (is_lawful_operand equations i) args) lawful in
    ap₂ (λ (number : ℕ) (points : List Point). record { form = record { signed = kind; width = operand_width widths a }; number = number } ∷ points) (same-operand equations widths samples i n a within parts.0) (same-points equations widths samples i n args kinds within parts.1)

-- one sample earlier
same-earlier : (equations : List EquationShape) (widths : List ℕ) (samples : List (List ℕ)) (i n c : ℕ) (a : Operand) → n < length samples → is_lawful_operand equations i a ≡ true → delayed_number equations (reverse (take n (rows_of equations widths samples))) a c ≡ number_earlier (run_of equations widths samples) n a c
same-earlier equations widths samples i zero c a within lawful = refl
same-earlier equations widths samples i (suc n) c a within lawful =
    let rows = rows_of equations widths samples in
    let less : n < length rows = omega (arith, length-rows_after equations widths [] samples) in
    let before : reverse (take (suc n) rows) ≡ get_or rows n [] ∷ reverse (take n rows) = ap reverse (take-suc rows n [] less) ∙ reverse-append (take n rows) (get_or rows n [] ∷ []) in
    ap (λ (past : List (List ℕ)). delayed_number equations past a c) before ∙ same-operand equations widths samples i n a (omega arith) lawful

-- each number of a row
same-number : (equations : List EquationShape) (outputs : List Operand) (widths : List ℕ) (samples : List (List ℕ)) → IsFlat equations outputs → AtEach (run_of equations widths samples) (λ n i e. get_or (get_or (rows_of equations widths samples) n []) i 0 ≡ number_in (sight_at equations widths samples n) i e.op e.args e.kinds)
same-number equations outputs widths samples flat n i e within there =
    let sample : slice_get samples n ≡ Some (get_or samples n []) = slice_get-get_or samples n [] within in
    let row = get_or_from_slice_get (rows_of equations widths samples) n (row_of equations widths (reverse (take n (rows_of equations widths samples))) (get_or samples n [])) [] (rows_of-at equations widths samples n (get_or samples n []) sample) in
    let number = row_of-at equations outputs widths (reverse (take n (rows_of equations widths samples))) (get_or samples n []) i e flat there in
    let P : List ℕ → Type 0 = λ numbers. get_or numbers i 0 ≡ number_in (record { equations = equations; widths = widths; before = reverse (take n (rows_of equations widths samples)); sample = get_or samples n []; row = numbers }) i e.op e.args e.kinds in
    subst P (sym row) number

operation : (sight : Sight) (i : ℕ) (op : Op) (args : List Operand) (kinds : List Bool) → is_operator op ≡ true → number_in sight i op args kinds ≡ operator_number (get_or sight.widths i 0) op (points_in sight args kinds)
operation sight i Input args kinds is = cc
operation sight i (Delay c) args kinds is = cc
operation sight i (Rec init first) args kinds is = cc
operation sight i op args kinds is = refl

number-holds : (equations : List EquationShape) (outputs : List Operand) (widths : List ℕ) (samples : List (List ℕ)) (n j : ℕ) → IsFlat equations outputs → AreWidths equations widths → ((n : ℕ) (sample : List ℕ) → slice_get samples n ≡ Some sample → IsRow (input_widths equations) sample) → n < length samples → j < length equations → get_or (get_or (rows_of equations widths samples) n []) j 0 < 2 ^ get_or widths j 0
number-holds equations outputs widths samples n j flat all lawful within low = rows_of-have_widths equations outputs widths samples flat all lawful n (get_or (rows_of equations widths samples) n []) (slice_get-get_or (rows_of equations widths samples) n [] (omega (arith, within, length-rows_after equations widths [] samples))) j (omega (arith, low, all.count))

-- an operand's number has the bits of its width
operand-holds : (equations : List EquationShape) (outputs : List Operand) (widths : List ℕ) (samples : List (List ℕ)) (i n : ℕ) (a : Operand) → IsFlat equations outputs → AreWidths equations widths → ((n : ℕ) (sample : List ℕ) → slice_get samples n ≡ Some sample → IsRow (input_widths equations) sample) → n < length samples → i < length equations → is_lawful_operand equations i a ≡ true → number_at (run_of equations widths samples) n a < 2 ^ operand_width widths a
operand-holds equations outputs widths samples i n (Const c) flat all lawful within low may = number_width-holds c (ltb-true c (2 ^ 64) may)
operand-holds equations outputs widths samples i n (Eq j) flat all lawful within low may = number-holds equations outputs widths samples n j flat all lawful within (let less : j < i = ltb-true j i may in omega arith)
operand-holds equations outputs widths samples i n (Past rec k) flat all lawful within low may =
    let p = past_of equations i rec k may in
    let initial : initial_of equations rec ≡ p.init = ap (λ (o : Option EquationShape). option_map_or (λ (e : EquationShape). init_of e.op) o 0) p.there ∙ ap init_of p.op in
    let begins : initial_of equations rec < 2 ^ get_or widths rec 0 = rw initial (initial-holds equations outputs widths rec p.init p.first p.equation flat all p.there p.op) in
    by_test (nat_le k n) begins (number-holds equations outputs widths samples (n - k) rec flat all lawful (omega arith) (slice_get_within equations rec p.equation p.there)) where
      by_test : (b : Bool) → initial_of equations rec < 2 ^ get_or widths rec 0 → get_or (get_or (rows_of equations widths samples) (n - k) []) rec 0 < 2 ^ get_or widths rec 0 → cond b (get_or (get_or (rows_of equations widths samples) (n - k) []) rec 0) (initial_of equations rec) < 2 ^ get_or widths rec 0
      by_test true begins holds = holds
      by_test false begins holds = begins

list-holds : (equations : List EquationShape) (outputs : List Operand) (widths : List ℕ) (samples : List (List ℕ)) (i n : ℕ) (args : List Operand) (kinds : List Bool) → IsFlat equations outputs → AreWidths equations widths → ((n : ℕ) (sample : List ℕ) → slice_get samples n ≡ Some sample → IsRow (input_widths equations) sample) → n < length samples → i < length equations → list_all (is_lawful_operand equations i) args ≡ true → AreLawful (points_at (run_of equations widths samples) n args kinds)
list-holds equations outputs widths samples i n [] kinds flat all lawful within low may = tt
list-holds equations outputs widths samples i n (a ∷ args) [] flat all lawful within low may = tt
list-holds equations outputs widths samples i n (a ∷ args) (kind ∷ kinds) flat all lawful within low may =
    let parts = and_parts (is_lawful_operand equations i a) (list_all (is_lawful_operand equations i) args) may in
    (operand-holds equations outputs widths samples i n a flat all lawful within low parts.0, list-holds equations outputs widths samples i n args kinds flat all lawful within low parts.1)

-- the rows of equations on samples of the inputs' widths
pub is_run : (equations : List EquationShape) (outputs : List Operand) (widths : List ℕ) (samples : List (List ℕ)) → IsFlat equations outputs → AreWidths equations widths → ((n : ℕ) (sample : List ℕ) → slice_get samples n ≡ Some sample → IsRow (input_widths equations) sample) → IsRun (run_of equations widths samples)
is_run equations outputs widths samples flat all lawful = record {
  input = λ n i e within there op. same-number equations outputs widths samples flat n i e within there ∙ ap (λ (o : Op). number_in (sight_at equations widths samples n) i o e.args e.kinds) op;
  delay = λ n i e within there c a op args. same-number equations outputs widths samples flat n i e within there ∙ ap₂ (λ (o : Op) (xs : List Operand). number_in (sight_at equations widths samples n) i o xs e.kinds) op args ∙ same-earlier equations widths samples i n c a within (one i e there a args);
  recurrence = λ n i e within there init first op. same-number equations outputs widths samples flat n i e within there ∙ ap (λ (o : Op). number_in (sight_at equations widths samples n) i o e.args e.kinds) op ∙ ap (recurrence_number (get_or widths i 0)) (same-points equations widths samples i n e.args e.kinds within (flat.operands i e there));
  operator = λ n i e within there op. same-number equations outputs widths samples flat n i e within there ∙ operation (sight_at equations widths samples n) i e.op e.args e.kinds op ∙ ap (operator_number (get_or widths i 0) e.op) (same-points equations widths samples i n e.args e.kinds within (flat.operands i e there));
  lawful = λ n i e within there. list-holds equations outputs widths samples i n e.args e.kinds flat all lawful within (slice_get_within equations i e there) (flat.operands i e there);
} where
  one : (i : ℕ) (e : EquationShape) → slice_get equations i ≡ Some e → (a : Operand) → e.args ≡ a ∷ [] → is_lawful_operand equations i a ≡ true
  one i e there a args = let P : List Operand → Type 0 = λ xs. list_all (is_lawful_operand equations i) xs ≡ true in (and_parts (is_lawful_operand equations i a) true (subst P args (flat.operands i e there))).0
