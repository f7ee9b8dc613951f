-- One more operand, one more equation, one more byte.
use Rattle.std.proofs.Common.{◌≡◌, ◌<◌, ◌≤◌, ℕ, zero, suc, ◌+◌, ◌*◌, ◌/◌, ◌^◌, Bool, Some, List, [], ◌∷◌, ◌++◌, length, drop, take, get_or, map, subst, refl, sym, ap, ap₂, ◌∙◌, arith, append_assoc, append-nil, length-append, cond, unwrap_or, true, false}
use Rattle.std.specs.Prelude.{count_by}
use Rattle.std.proofs.lemmas.List.Sums.{sum_by-cons}
use Rattle.std.specs.List.{slice_get, range_with_len}
use Rattle.std.proofs.Math.Nat.{div-div-eq-div-mul}
use Rattle.pr_base.specs.Numbers.{byte_at, bytes_of}
use Rattle.pr_flat.specs.declared.equations.Operand.{Operand}
use Rattle.pr_flat.specs.Shape.{EquationShape}
use Rattle.pr_flat.specs.Facts.{is_input}
use Rattle.pr_flat.specs.Values.{input_widths}
use Rattle.pr_flat.specs.Widths.{operand_width}
use Rattle.pr_net.specs.declared.cells.Slice.{Slice}
use Rattle.pr_net.specs.declared.cells.Cell.{Cell}
use Rattle.pr_cut_units.specs.Parts.{each}
use Rattle.pr_cut_units.specs.Widening as Widening
use Rattle.pr_cut_cells.specs.declared.arguments.Argument.{Argument}
use Rattle.pr_cut_cells.specs.Arguments.{argument_of}
use Rattle.pr_cut_units.specs.Equations.{UnitPlan, operand_slices, arguments, Cut, next_units, cut_next, cut_after, cut_whole}
use Rattle.pr_cut.specs.Operators.{arguments_of}
use Rattle.pr_cut.specs.Sources.{IsCutTo, IsReady, AreReady}

-- the list from a place on
pub drop_at : {A : Type 0} (xs : List A) (i : ℕ) (x : A) → slice_get xs i ≡ Some x → drop i xs ≡ x ∷ drop (suc i) xs
drop_at [] i x h = cc
drop_at (y ∷ xs) zero x h = let same : y ≡ x = cc in ap (λ z. z ∷ xs) same
drop_at (y ∷ xs) (suc i) x h = drop_at xs i x h

-- one more equation
pub cut_more : (plan : UnitPlan) (i : ℕ) (e : EquationShape) (us vs : List (List Cell)) (values more : List (List Slice)) (slices : List Slice) → slice_get plan.equations i ≡ Some e → IsCutTo plan i us values
    → vs ≡ us ++ (next_units plan (record { units = us; values = values }) e (length us)).units → slices ≡ (next_units plan (record { units = us; values = values }) e (length us)).slices → more ≡ values ++ slices ∷ []
    → IsCutTo plan (i + 1) vs more
cut_more plan i e us vs values more slices there cut ev es em =
    let now : Cut = record { units = us; values = values } in
    let after : i + 1 ≡ suc i = omega arith in
    let next : cut_next plan now e ≡ record { units = vs; values = more } = ap₂ (λ (x : List (List Cell)) (y : List (List Slice)). record { units = x; values = y }) (sym ev) (ap (λ (s : List Slice). values ++ s ∷ []) (sym es) ∙ sym em) in
    record {
      count = ap length em ∙ length-append values (slices ∷ []) ∙ omega (arith, cut.count);
      rest = ap (λ (k : ℕ). cut_after plan (record { units = vs; values = more }) (drop k plan.equations)) after ∙ ap (λ (c : Cut). cut_after plan c (drop (suc i) plan.equations)) (sym next) ∙ ap (cut_after plan now) (sym (drop_at plan.equations i e there)) ∙ cut.rest;
    }

-- the bytes of a number, by their places
bytes_from : (k j n : ℕ) → bytes_of k (n / 256 ^ j) ≡ map (byte_at n) (range_with_len j k)
bytes_from zero j n = refl
bytes_from (suc k) j n =
    let power : 256 * 256 ^ j ≡ 256 ^ suc j = omega arith in
    let turned : 256 ^ j * 256 ≡ 256 * 256 ^ j = omega arith in
    let one : suc j ≡ j + 1 = omega arith in
    let up : n / 256 ^ j / 256 ≡ n / 256 ^ (j + 1) = div-div-eq-div-mul n (256 ^ j) 256 ∙ ap (λ (m : ℕ). n / m) (turned ∙ power) ∙ ap (λ (m : ℕ). n / 256 ^ m) one in
    ap (λ (bs : List ℕ). byte_at n j ∷ bs) (ap (bytes_of k) up ∙ bytes_from k (j + 1) n)

slices_each : (js bs : List ℕ) (n : ℕ) → bs ≡ map (byte_at n) js → map (λ b. Slice.Const b) bs ≡ map (λ i. Slice.Const (byte_at n i)) js
slices_each [] bs n h = ap (map (λ b. Slice.Const b)) h
slices_each (j ∷ js) bs n h = ap (map (λ b. Slice.Const b)) h ∙ ap (λ (x : List Slice). Slice.Const (byte_at n j) ∷ x) (slices_each js (map (byte_at n) js) n refl)

pub number_each : (k n : ℕ) → each k (λ i. Slice.Const (byte_at n i)) ≡ map (λ b. Slice.Const b) (bytes_of k n)
number_each k n =
    let whole : n ≡ n / 256 ^ 0 = omega arith in
    sym (slices_each (range_with_len 0 k) (bytes_of k n) n (ap (bytes_of k) whole ∙ bytes_from k 0 n))

arguments_push : (xs : List Argument) (x : Argument) → arguments_of (xs ++ x ∷ []) ≡ arguments_of xs ++ argument_of x ∷ []
arguments_push [] x = refl
arguments_push (y ∷ xs) x = ap (λ (ys : List Widening.Argument). argument_of y ∷ ys) (arguments_push xs x)

-- one more operand
pub arguments_more : (plan : UnitPlan) (values : List (List Slice)) (args : List Operand) (kinds : List Bool) (i : ℕ) (a : Operand) (kind : Bool) (xs ys : List Argument) (x : Argument) (whole : List Widening.Argument) → slice_get args i ≡ Some a → slice_get kinds i ≡ Some kind
    → argument_of x ≡ record { slices = operand_slices plan values a; form = record { signed = kind; width = operand_width plan.widths a } } → ys ≡ xs ++ x ∷ []
    → arguments_of xs ++ arguments plan values (drop i args) (drop i kinds) ≡ whole → arguments_of ys ++ arguments plan values (drop (i + 1) args) (drop (i + 1) kinds) ≡ whole
arguments_more plan values args kinds i a kind xs ys x whole ha hk hx hy is =
    let after : i + 1 ≡ suc i = omega arith in
    let rest = arguments plan values (drop (suc i) args) (drop (suc i) kinds) in
    let now : Widening.Argument = record { slices = operand_slices plan values a; form = record { signed = kind; width = operand_width plan.widths a } } in
    let all : arguments_of ys ≡ arguments_of xs ++ now ∷ [] = ap arguments_of hy ∙ arguments_push xs x ∙ ap (λ (y : Widening.Argument). arguments_of xs ++ y ∷ []) hx in
    let before : arguments plan values (drop i args) (drop i kinds) ≡ now ∷ rest = ap₂ (λ (bs : List Operand) (ks : List Bool). arguments plan values bs ks) (drop_at args i a ha) (drop_at kinds i kind hk) in
    ap₂ (λ (ys : List Widening.Argument) (k : ℕ). ys ++ arguments plan values (drop k args) (drop k kinds)) all after
    ∙ append_assoc (arguments_of xs) (now ∷ []) rest ∙ ap (λ (ys : List Widening.Argument). arguments_of xs ++ ys) (sym before) ∙ is

pub arguments_done : (plan : UnitPlan) (values : List (List Slice)) (args : List Operand) (kinds : List Bool) (i : ℕ) (xs : List Argument) (whole : List Widening.Argument) → length args ≤ i → arguments_of xs ++ arguments plan values (drop i args) (drop i kinds) ≡ whole → arguments_of xs ≡ whole
arguments_done plan values args kinds i xs whole l is =
    sym (append-nil (arguments_of xs)) ∙ ap (λ (bs : List Operand). arguments_of xs ++ arguments plan values bs (drop i kinds)) (sym (drop_end args i l)) ∙ is
  where
    drop_end : {A : Type 0} (xs : List A) (i : ℕ) → length xs ≤ i → drop i xs ≡ []
    drop_end [] zero l = refl
    drop_end [] (suc i) l = refl
    drop_end (x ∷ xs) zero l = absurd (omega (arith, l))
    drop_end (x ∷ xs) (suc i) l = drop_end xs i (omega (arith, l))

pub ready_at : (plan : UnitPlan) (values : List (List Slice)) (args : List Operand) (i : ℕ) (a : Operand) → AreReady plan values args → i < length args → a ≡ get_or args i a → IsReady plan values a
ready_at plan values [] i a h l read = absurd (omega (arith, l))
ready_at plan values (b ∷ args) zero a h l read = subst (IsReady plan values) (sym read) h.0
ready_at plan values (b ∷ args) (suc i) a h l read = ready_at plan values args i a h.1 (omega (arith, l)) read

-- one more equation that is an input, or not
pub inputs_more : (equations : List EquationShape) (i : ℕ) (e : EquationShape) → slice_get equations i ≡ Some e → count_by (λ (e : EquationShape). is_input e.op) (take (suc i) equations) ≡ count_by (λ (e : EquationShape). is_input e.op) (take i equations) + cond (is_input e.op) 1 0
inputs_more [] i e there = cc
inputs_more (d ∷ equations) zero e there =
    let same : d ≡ e = cc in
    sum_by-cons (λ (e : EquationShape). cond (is_input e.op) 1 0) d [] ∙ ap (λ (q : EquationShape). cond (is_input q.op) 1 0 + 0) same ∙ omega arith
inputs_more (d ∷ equations) (suc i) e there =
    let one = sum_by-cons (λ (e : EquationShape). cond (is_input e.op) 1 0) d (take (suc i) equations) in
    let two = sum_by-cons (λ (e : EquationShape). cond (is_input e.op) 1 0) d (take i equations) in
    omega (arith, one, two, inputs_more equations i e there)

-- no equation is left
drop_all : {A : Type 0} (xs : List A) (i : ℕ) → length xs ≤ i → drop i xs ≡ []
drop_all [] zero l = refl
drop_all [] (suc i) l = refl
drop_all (x ∷ xs) zero l = absurd (omega (arith, l))
drop_all (x ∷ xs) (suc i) l = drop_all xs i (omega (arith, l))

cut_done : (plan : UnitPlan) (i : ℕ) (units : List (List Cell)) (values : List (List Slice)) → IsCutTo plan i units values → length plan.equations ≤ i → record { units = units; values = values } ≡ cut_whole plan
cut_done plan i units values cut l = ap (cut_after plan (record { units = units; values = values })) (sym (drop_all plan.equations i l)) ∙ cut.rest

pub cut_units : (plan : UnitPlan) (i : ℕ) (units : List (List Cell)) (values : List (List Slice)) → IsCutTo plan i units values → length plan.equations ≤ i → units ≡ (cut_whole plan).units
cut_units plan i units values cut l = ap (λ (c : Cut). c.units) (cut_done plan i units values cut l)

pub cut_values : (plan : UnitPlan) (i : ℕ) (units : List (List Cell)) (values : List (List Slice)) → IsCutTo plan i units values → length plan.equations ≤ i → values ≡ (cut_whole plan).values
cut_values plan i units values cut l = ap (λ (c : Cut). c.values) (cut_done plan i units values cut l)

pub inputs_few : (equations : List EquationShape) → length (input_widths equations) ≤ length equations
inputs_few [] = omega arith
inputs_few (e ∷ equations) = go (is_input e.op) (inputs_few equations)
  where
    go : (b : Bool) → length (input_widths equations) ≤ length equations → length (cond b (unwrap_or e.declared 0 ∷ input_widths equations) (input_widths equations)) ≤ suc (length equations)
    go true h = omega (arith, h)
    go false h = omega (arith, h)
