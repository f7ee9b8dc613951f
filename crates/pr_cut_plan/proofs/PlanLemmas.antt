-- Where the units of equations begin, and the limits of their net.
use Rattle.std.proofs.Common.{◌≡◌, ◌<◌, ◌≤◌, ℕ, zero, suc, ◌+◌, ◌++◌, Bool, true, false, Some, None, List, [], ◌∷◌, length, map, take, get_or, refl, sym, ap, ◌∙◌, arith, nat_lt}
use Rattle.std.specs.Prelude.{slice_index, count_by}
use Rattle.std.specs.Bool.{if◌then◌else◌}
use Rattle.std.specs.List.{slice_get, sum, sum_by}
use Rattle.std.proofs.lemmas.Bool.{lt-ltb, ltb-true}
use Rattle.std.proofs.lemmas.List.{length-map}
use Rattle.std.proofs.lemmas.List.Sums.{sum_by-cons, sum_by-take-le}
use Rattle.pr_base.specs.Numbers.{slices_of}
use Rattle.pr_base.specs.declared.caps.Cap.{Cap}
use Rattle.pr_flat.specs.declared.equations.Operand.{Operand}
use Rattle.pr_flat.specs.Shape.{EquationShape}
use Rattle.pr_flat.specs.Facts.{is_input, IsFlat}
use Rattle.pr_flat.specs.Widths.{forms_in, AreWidths}
use Rattle.pr_flat.specs.Values.{input_widths}
use Rattle.pr_cut_units.specs.Counts.{body_count}
use Rattle.pr_cut_units.specs.Reached.{reached}
use Rattle.pr_cut_units.specs.Equations.{UnitPlan, plan_of, own_count, counts_from, first_unit, hold_unit, cut_whole}
use Rattle.pr_cut_units.specs.Nets.{output_of, net_of, limit_passed}
use Rattle.pr_cut_units.proofs.CountNets.{count_whole, length-reached}
use Rattle.pr_cut_units.proofs.WideNets.{are_counted}
use Rattle.pr_cut_units.proofs.StateNets.{hold_is}
use Rattle.pr_cut_units.specs.Equations.{all_units}

-- ---- counts
count_from : (equations : List EquationShape) (widths : List ℕ) (k : ℕ) (es : List EquationShape) (flags : List Bool) (i : ℕ) (e : EquationShape) → slice_get es i ≡ Some e → length flags ≡ length es → get_or (counts_from equations widths k es flags) i 0 ≡ (if get_or flags i false then own_count equations widths (k + i) e e.op else 0)
count_from equations widths k [] flags i e there same = cc
count_from equations widths k (d ∷ es) [] i e there same = absurd (omega (arith, same))
count_from equations widths k (d ∷ es) (b ∷ flags) zero e there same =
    let one : d ≡ e = cc in
    let z : k ≡ k + 0 = omega arith in
    ap (λ (x : EquationShape). if b then own_count equations widths k x x.op else 0) one ∙ ap (λ (n : ℕ). if b then own_count equations widths n e e.op else 0) z
count_from equations widths k (d ∷ es) (b ∷ flags) (suc i) e there same =
    let z : suc k + i ≡ k + suc i = omega arith in
    count_from equations widths (suc k) es flags i e there (omega (arith, same)) ∙ ap (λ (n : ℕ). if get_or flags i false then own_count equations widths n e e.op else 0) z

count_is : (equations : List EquationShape) (widths : List ℕ) (outputs : List Operand) (i : ℕ) (e : EquationShape) → slice_get equations i ≡ Some e → get_or (plan_of equations widths outputs).counts i 0 ≡ (if get_or (reached equations outputs) i false then own_count equations widths i e e.op else 0)
count_is equations widths outputs i e there =
    let z : 0 + i ≡ i = omega arith in
    count_from equations widths 0 equations (reached equations outputs) i e there (length-reached outputs 0 equations)
    ∙ ap (λ (n : ℕ). if get_or (reached equations outputs) i false then own_count equations widths n e e.op else 0) z

pub no_units : (equations : List EquationShape) (widths : List ℕ) (outputs : List Operand) (i : ℕ) (e : EquationShape) (b : Bool) → slice_get equations i ≡ Some e → b ≡ get_or (reached equations outputs) i false → b ≡ false → 0 ≡ get_or (plan_of equations widths outputs).counts i 0
no_units equations widths outputs i e b there is none = sym (count_is equations widths outputs i e there ∙ ap (λ (t : Bool). if t then own_count equations widths i e e.op else 0) (sym is ∙ none))

pub own_units : (equations : List EquationShape) (widths : List ℕ) (outputs : List Operand) (i n : ℕ) (e : EquationShape) (b : Bool) → slice_get equations i ≡ Some e → b ≡ get_or (reached equations outputs) i false → b ≡ true → n ≡ own_count equations widths i e e.op → n ≡ get_or (plan_of equations widths outputs).counts i 0
own_units equations widths outputs i n e b there is some own = own ∙ sym (count_is equations widths outputs i e there ∙ ap (λ (t : Bool). if t then own_count equations widths i e e.op else 0) (sym is ∙ some))

-- ---- first units
sum_next : (xs : List ℕ) (i : ℕ) → sum (take (suc i) xs) ≡ sum (take i xs) + get_or xs i 0
sum_next [] zero = refl
sum_next [] (suc i) = refl
sum_next (x ∷ xs) zero = omega (arith, sum_by-cons (λ (k : ℕ). k) x [])
sum_next (x ∷ xs) (suc i) = omega (arith, sum_next xs i, sum_by-cons (λ (k : ℕ). k) x (take (suc i) xs), sum_by-cons (λ (k : ℕ). k) x (take i xs))

pub first_next : (plan : UnitPlan) (i : ℕ) → first_unit plan (i + 1) ≡ first_unit plan i + slice_index plan.counts i
first_next plan i =
    let z : i + 1 ≡ suc i = omega arith in
    let s = sum_next plan.counts i in
    ap (first_unit plan) z ∙ omega (arith, s)

pub first_within : (plan : UnitPlan) (i : ℕ) → first_unit plan i ≤ all_units plan
first_within plan i = let s = sum_by-take-le (λ (k : ℕ). k) plan.counts i in omega (arith, s)

take_all : (xs : List ℕ) (i : ℕ) → length xs ≤ i → take i xs ≡ xs
take_all [] zero l = refl
take_all [] (suc i) l = refl
take_all (x ∷ xs) zero l = absurd (omega (arith, l))
take_all (x ∷ xs) (suc i) l = ap (λ (ys : List ℕ). x ∷ ys) (take_all xs i (omega (arith, l)))

length-counts : (equations : List EquationShape) (widths : List ℕ) (k : ℕ) (es : List EquationShape) (flags : List Bool) → length (counts_from equations widths k es flags) ≤ length es
length-counts equations widths k [] flags = omega arith
length-counts equations widths k (e ∷ es) [] = omega arith
length-counts equations widths k (e ∷ es) (b ∷ flags) = let t = length-counts equations widths (suc k) es flags in omega (arith, t)

pub first_last : (equations : List EquationShape) (widths : List ℕ) (outputs : List Operand) (i : ℕ) → length equations ≤ i → first_unit (plan_of equations widths outputs) i ≡ all_units (plan_of equations widths outputs)
first_last equations widths outputs i l =
    let plan = plan_of equations widths outputs in
    let few = length-counts equations widths 0 equations (reached equations outputs) in
    ap (λ (xs : List ℕ). count_by (λ (e : EquationShape). is_input e.op) equations + sum xs) (take_all plan.counts i (omega (arith, few, l)))

pub first_none : (plan : UnitPlan) → first_unit plan 0 ≡ count_by (λ (e : EquationShape). is_input e.op) plan.equations
first_none plan = omega arith

pub hold_at : (equations : List EquationShape) (widths : List ℕ) (outputs : List Operand) (i n first body : ℕ) (e : EquationShape) → slice_get equations i ≡ Some e → first ≡ first_unit (plan_of equations widths outputs) i → body ≡ body_count (slice_index widths i) (forms_in widths e) → n ≡ first + body → n ≡ hold_unit (plan_of equations widths outputs) i
hold_at equations widths outputs i n first body e there at own is =
    let h = hold_is (plan_of equations widths outputs) i e there in
    omega (arith, h, at, own, is)

-- ---- limits
pub units_counted : (equations : List EquationShape) (widths : List ℕ) (outputs : List Operand) → IsFlat equations outputs → AreWidths equations widths → length (cut_whole (plan_of equations widths outputs)).units ≡ all_units (plan_of equations widths outputs)
units_counted equations widths outputs flat wide = count_whole equations widths outputs (are_counted equations outputs widths flat wide)

not_below : (m n : ℕ) → n ≤ m → nat_lt m n ≡ false
not_below m n l = by (nat_lt m n) refl
  where
    by : (b : Bool) → nat_lt m n ≡ b → nat_lt m n ≡ false
    by true q = absurd (let t = ltb-true m n q in omega (arith, t, l))
    by false q = q

pub bytes_passed : (columns : ℕ) (equations : List EquationShape) (widths : List ℕ) (outputs : List Operand) → columns < sum_by slices_of (input_widths equations) → limit_passed columns (net_of equations widths outputs) ≡ Some Cap.InputBytes
unfolding net_of
bytes_passed columns equations widths outputs l = rw (lt-ltb columns (sum_by slices_of (input_widths equations)) l) refl

pub outputs_passed : (columns : ℕ) (equations : List EquationShape) (widths : List ℕ) (outputs : List Operand) → sum_by slices_of (input_widths equations) ≤ columns → 64 < length outputs → limit_passed columns (net_of equations widths outputs) ≡ Some Cap.Outputs
unfolding net_of
outputs_passed columns equations widths outputs l m =
    let n : length (map (output_of (plan_of equations widths outputs) (cut_whole (plan_of equations widths outputs)).values) outputs) ≡ length outputs = length-map outputs (output_of (plan_of equations widths outputs) (cut_whole (plan_of equations widths outputs)).values) in
    rw (not_below columns (sum_by slices_of (input_widths equations)) l, lt-ltb 64 (length (map (output_of (plan_of equations widths outputs) (cut_whole (plan_of equations widths outputs)).values) outputs)) (omega (arith, n, m))) refl

pub units_passed : (columns : ℕ) (equations : List EquationShape) (widths : List ℕ) (outputs : List Operand) → IsFlat equations outputs → AreWidths equations widths → sum_by slices_of (input_widths equations) ≤ columns → length outputs ≤ 64 → 32768 < all_units (plan_of equations widths outputs) → limit_passed columns (net_of equations widths outputs) ≡ Some Cap.Units
unfolding net_of
units_passed columns equations widths outputs flat wide l m u =
    let n : length (map (output_of (plan_of equations widths outputs) (cut_whole (plan_of equations widths outputs)).values) outputs) ≡ length outputs = length-map outputs (output_of (plan_of equations widths outputs) (cut_whole (plan_of equations widths outputs)).values) in
    let c = units_counted equations widths outputs flat wide in
    rw (not_below columns (sum_by slices_of (input_widths equations)) l, not_below 64 (length (map (output_of (plan_of equations widths outputs) (cut_whole (plan_of equations widths outputs)).values) outputs)) (omega (arith, n, m)), lt-ltb 32768 (length (cut_whole (plan_of equations widths outputs)).units) (omega (arith, c, u))) refl

pub none_passed : (columns : ℕ) (equations : List EquationShape) (widths : List ℕ) (outputs : List Operand) → IsFlat equations outputs → AreWidths equations widths → sum_by slices_of (input_widths equations) ≤ columns → length outputs ≤ 64 → all_units (plan_of equations widths outputs) ≤ 32768 → limit_passed columns (net_of equations widths outputs) ≡ None
unfolding net_of
none_passed columns equations widths outputs flat wide l m u =
    let n : length (map (output_of (plan_of equations widths outputs) (cut_whole (plan_of equations widths outputs)).values) outputs) ≡ length outputs = length-map outputs (output_of (plan_of equations widths outputs) (cut_whole (plan_of equations widths outputs)).values) in
    let c = units_counted equations widths outputs flat wide in
    rw (not_below columns (sum_by slices_of (input_widths equations)) l, not_below 64 (length (map (output_of (plan_of equations widths outputs) (cut_whole (plan_of equations widths outputs)).values) outputs)) (omega (arith, n, m)), not_below 32768 (length (cut_whole (plan_of equations widths outputs)).units) (omega (arith, c, u))) refl

-- a limit that is passed after those of bytes and outputs is that of units
pub only_units : (columns : ℕ) (equations : List EquationShape) (widths : List ℕ) (outputs : List Operand) (cap : Cap) → sum_by slices_of (input_widths equations) ≤ columns → length outputs ≤ 64 → limit_passed columns (net_of equations widths outputs) ≡ Some cap → cap ≡ Cap.Units
unfolding net_of
only_units columns equations widths outputs cap l m passed =
    let shown = map (output_of (plan_of equations widths outputs) (cut_whole (plan_of equations widths outputs)).values) outputs in
    let units = (cut_whole (plan_of equations widths outputs)).units in
    let n : length shown ≡ length outputs = length-map outputs (output_of (plan_of equations widths outputs) (cut_whole (plan_of equations widths outputs)).values) in
    let e : limit_passed columns (net_of equations widths outputs) ≡ (if nat_lt 32768 (length units) then Some Cap.Units else None) = rw (not_below columns (sum_by slices_of (input_widths equations)) l, not_below 64 (length shown) (omega (arith, n, m))) refl in
    last (nat_lt 32768 (length units)) (sym e ∙ passed)
  where
    last : (b : Bool) → (if b then Some Cap.Units else None) ≡ Some cap → cap ≡ Cap.Units
    last true q = cc
    last false q = cc

-- ---- numbers one after the other
pub push_each : (xs : List ℕ) (x i : ℕ) (f : ℕ → ℕ) → length xs ≡ i → ((k : ℕ) → k < i → get_or xs k 0 ≡ f k) → x ≡ f i → (k : ℕ) → k < i + 1 → get_or (xs ++ x ∷ []) k 0 ≡ f k
push_each [] x i f long h e zero l = let z : i ≡ 0 = omega (arith, long) in e ∙ ap f z
push_each [] x i f long h e (suc k) l = absurd (omega (arith, l, long))
push_each (y ∷ xs) x zero f long h e k l = absurd (omega (arith, long))
push_each (y ∷ xs) x (suc i) f long h e zero l = h 0 (omega arith)
push_each (y ∷ xs) x (suc i) f long h e (suc k) l = push_each xs x i (λ j. f (suc j)) (omega (arith, long)) (λ j m. h (suc j) (omega (arith, m))) e k (omega (arith, l))
