-- Every number of a row has the bits of its equation's width.
use Rattle.std.proofs.Common.{count_by, take, ◌≡◌, ℕ, zero, suc, ◌+◌, ◌-◌, ◌^◌, ◌<◌, Bool, true, false, not, ◌&&◌, ◌||◌, Option, Some, None, unwrap_or, is_some, cond, List, [], ◌∷◌, length, get_or, nat_eq, nat_lt, nat_le, refl, sym, ◌∙◌, ap, subst, arith}
use Rattle.std.specs.List.{slice_get, list_all}
use Rattle.std.specs.Option.{option_map_or}
use Rattle.std.proofs.lemmas.Bool.{and_parts, ltb-true, eqb-true}
use Rattle.std.proofs.lemmas.Nat.{pow_pos}
use Rattle.std.proofs.lemmas.List.Sums.{sum_by-cons}
use Rattle.std.proofs.lemmas.Option.{slice_get_within}
use Rattle.pr_flat.specs.declared.equations.Operand.{Operand}
use Rattle.pr_flat.specs.declared.equations.Operand.TheVariants.{Const, Eq, Past}
use Rattle.pr_flat.specs.declared.equations.Op.{Op}
use Rattle.pr_flat.specs.declared.equations.Op.TheVariants.{Input, Delay, Rec}
use Rattle.pr_flat.specs.declared.forms.Point.{Point}
use Rattle.pr_flat.specs.Forms.{number_width, least_from}
use Rattle.pr_flat.specs.Shape.{EquationShape, EachEquation}
use Rattle.pr_flat.specs.Facts.{is_input, arity, is_rec, is_lawful_operand, has_lawful_width, has_lawful_constant, does_begin_with, begins_with, is_width, IsFlat}
use Rattle.pr_flat.specs.Widths.{operand_width, width_in, settled_width, is_open, AreWidths}
use Rattle.pr_base.specs.Rows.{IsRow}
use Rattle.pr_flat.specs.Values.{input_widths, initial_of, init_of, number_before, operand_number, delayed_number, points_in, recurrence_number, first_delayed, number_in, row_of, rows_after, rows_of, HaveWidths}
use Rattle.pr_flat.specs.Laws.{AllHaveWidths}
use Rattle.pr_flat.proofs.FormLemmas.{residue-lt}
use Rattle.pr_flat.proofs.WidthLemmas.{PastOf, past_of, declared_of, IsDeclared, equation_at}
use Rattle.pr_flat.proofs.ValueLemmas.{row_of-at}

-- a number below 2 to the power of 64 has the bits of its width
pub number_width-holds : (n : ℕ) → n < 2 ^ 64 → n < 2 ^ number_width n
unfolding number_width
number_width-holds n small = found 64 1 (λ w. nat_lt n (2 ^ w)) (λ w passes. ltb-true n (2 ^ w) passes) small where
  found : (k at : ℕ) (test : ℕ → Bool) → ((w : ℕ) → test w ≡ true → n < 2 ^ w) → n < 2 ^ 64 → n < 2 ^ unwrap_or (least_from k at test) 64
  found zero at test holds otherwise = otherwise
  found (suc k) at test holds otherwise = by_test (test at) refl (found k (at + 1) test holds otherwise) where
    by_test : (b : Bool) → test at ≡ b → n < 2 ^ unwrap_or (least_from k (at + 1) test) 64 → n < 2 ^ unwrap_or (cond (test at) (Some at) (least_from k (at + 1) test)) 64
    by_test true is later = let P : Bool → Type 0 = λ b. n < 2 ^ unwrap_or (cond b (Some at) (least_from k (at + 1) test)) 64 in subst P (sym is) (holds at is)
    by_test false is later = let P : Bool → Type 0 = λ b. n < 2 ^ unwrap_or (cond b (Some at) (least_from k (at + 1) test)) 64 in subst P (sym is) later

-- a recurrence holds its initial value
pub initial-holds : (equations : List EquationShape) (outputs : List Operand) (widths : List ℕ) (i init first : ℕ) (e : EquationShape) → IsFlat equations outputs → AreWidths equations widths → slice_get equations i ≡ Some e → e.op ≡ Rec init first → init < 2 ^ get_or widths i 0
initial-holds equations outputs widths i init first e flat all there op = by_openness (is_open e) refl where
  declared : IsDeclared e.declared → init < 2 ^ get_or widths i 0
  declared d =
      let lawful = flat.widths i e there in
      let P : Op → Type 0 = λ o. has_lawful_width o e.declared ≡ true in
      let Q : Option ℕ → Type 0 = λ o. has_lawful_width (Rec init first) o ≡ true in
      let both : (is_width d.width && nat_lt init (2 ^ d.width)) ≡ true = subst Q d.is (subst P op lawful) in
      let low = ltb-true init (2 ^ d.width) (and_parts (is_width d.width) (nat_lt init (2 ^ d.width)) both).1 in
      let same = all.declared i e there d.width d.is in
      rw same low

  by_openness : (b : Bool) → is_open e ≡ b → init < 2 ^ get_or widths i 0
  by_openness true is = (all.recurrences i e there init first (slice_get_within equations i e there) is op).holds.initial
  by_openness false is = declared (declared_of e init first op is)

-- a number that another's stream begins with
record Begins (equations : List EquationShape) (c j : ℕ) : Type 0 where
  equation : EquationShape
  there : slice_get equations j ≡ Some equation
  begins : begins_with c equation.op ≡ true

begins_there : (equations : List EquationShape) (c j : ℕ) (o : Option EquationShape) → slice_get equations j ≡ o → option_map_or (begins_with c) (option_map_or (λ (e : EquationShape). Some e.op) o None) false ≡ true → Begins equations c j
begins_there equations c j None there begins = cc
begins_there equations c j (Some e) there begins = record { equation = e; there = there; begins = begins }

-- a delay's operand, by which its width is
record DelayAt (widths : List ℕ) (i : ℕ) (e : EquationShape) : Type 0 where
  arg : Operand
  args : e.args ≡ arg ∷ []
  width : get_or widths i 0 ≡ operand_width widths arg

one_arg : (args : List Operand) → length args ≡ 1 → (a : Operand) × (args ≡ a ∷ [])
one_arg [] count = absurd (omega arith)
one_arg (a ∷ []) count = (a, refl)
one_arg (a ∷ b ∷ args) count = absurd (omega arith)

settled_same : (natural w : ℕ) → settled_width None natural ≡ Some w → w ≡ natural
settled_same natural w settled = by_test (nat_le natural 128) settled where
  by_test : (b : Bool) → cond b (Some natural) None ≡ Some w → w ≡ natural
  by_test true is = cc
  by_test false is = cc

delay_width : (widths : List ℕ) (c : ℕ) (a : Operand) (declared : Option ℕ) (kinds : List Bool) (w : ℕ) → has_lawful_width (Delay c) declared ≡ true → length kinds ≡ 1 → width_in widths (record { op = Delay c; args = a ∷ []; declared = declared; kinds = kinds }) ≡ Some w → w ≡ operand_width widths a
delay_width widths c a (Some v) kinds w lawful count settled = cc
delay_width widths c a None [] w lawful count settled = absurd (omega arith)
delay_width widths c a None (k ∷ []) w lawful count settled = settled_same (operand_width widths a) w settled
delay_width widths c a None (k ∷ l ∷ kinds) w lawful count settled = absurd (omega arith)

delay_at : (equations : List EquationShape) (outputs : List Operand) (widths : List ℕ) (i c : ℕ) (e : EquationShape) → IsFlat equations outputs → AreWidths equations widths → slice_get equations i ≡ Some e → e.op ≡ Delay c → DelayAt widths i e
delay_at equations outputs widths i c e flat all there op =
    let arity_one : length e.args ≡ 1 = flat.args i e there ∙ ap arity op in
    let kinds_one : length e.kinds ≡ 1 = flat.kinds i e there ∙ ap arity op in
    let one = one_arg e.args arity_one in
    let closed : is_open e ≡ false = ap (λ (o : Op). is_rec o && not (is_some e.declared)) op in
    let settled = all.each i e there (slice_get_within equations i e there) closed in
    let P : Op → Type 0 = λ o. has_lawful_width o e.declared ≡ true in
    let Q : Op → Type 0 = λ o. width_in widths (record { op = o; args = e.args; declared = e.declared; kinds = e.kinds }) ≡ Some (get_or widths i 0) in
    let R : List Operand → Type 0 = λ xs. width_in widths (record { op = Delay c; args = xs; declared = e.declared; kinds = e.kinds }) ≡ Some (get_or widths i 0) in
    record { arg = one.0; args = one.1; width = delay_width widths c one.0 e.declared e.kinds (get_or widths i 0) (subst P op (flat.widths i e there)) kinds_one (subst R one.1 (subst Q op settled)) }

-- a delay's constant has the bits of its width
pub constant-holds : (n : ℕ) (equations : List EquationShape) (outputs : List Operand) (widths : List ℕ) (i c : ℕ) (e : EquationShape) → IsFlat equations outputs → AreWidths equations widths → i < n → slice_get equations i ≡ Some e → e.op ≡ Delay c → c < 2 ^ get_or widths i 0
constant-holds zero equations outputs widths i c e flat all low there op = absurd (omega arith)
constant-holds (suc n) equations outputs widths i c e flat all low there op =
    let d = delay_at equations outputs widths i c e flat all there op in
    let P : Op → Type 0 = λ o. has_lawful_constant equations o e.args ≡ true in
    let Q : List Operand → Type 0 = λ xs. (nat_eq c 0 || does_begin_with equations c xs) ≡ true in
    let R : List Operand → Type 0 = λ xs. list_all (is_lawful_operand equations i) xs ≡ true in
    let lawful = (and_parts (is_lawful_operand equations i d.arg) true (subst R d.args (flat.operands i e there))).0 in
    rw d.width (begun d.arg lawful (subst Q d.args (subst P op (flat.constants i e there))) (λ j x less at x_op. constant-holds n equations outputs widths j c x flat all (omega arith) at x_op)) where
      zero_holds : (w : ℕ) → (nat_eq c 0 || false) ≡ true → c < 2 ^ w
      zero_holds w is = let positive = pow_pos w in by_test (nat_eq c 0) refl is where
        by_test : (b : Bool) → nat_eq c 0 ≡ b → (b || false) ≡ true → c < 2 ^ w
        by_test true same one = let none = eqb-true c 0 same in let positive = pow_pos w in omega arith
        by_test false same one = cc

      by_op : (j : ℕ) (x : EquationShape) (o : Op) → slice_get equations j ≡ Some x → x.op ≡ o → begins_with c o ≡ true → j < i → ((j : ℕ) (x : EquationShape) → j < i → slice_get equations j ≡ Some x → x.op ≡ Delay c → c < 2 ^ get_or widths j 0) → c < 2 ^ get_or widths j 0
      by_op j x (Rec init first) at x_op begins less earlier = let same = eqb-true c init begins in let holds = initial-holds equations outputs widths j init first x flat all at x_op in omega arith
      by_op j x (Delay d) at x_op begins less earlier = let same : d ≡ c = sym (eqb-true c d begins) in earlier j x less at (x_op ∙ ap Delay same)
      by_op j x o at x_op begins less earlier = cc

      begun : (a : Operand) → is_lawful_operand equations i a ≡ true → (nat_eq c 0 || does_begin_with equations c (a ∷ [])) ≡ true → ((j : ℕ) (x : EquationShape) → j < i → slice_get equations j ≡ Some x → x.op ≡ Delay c → c < 2 ^ get_or widths j 0) → c < 2 ^ operand_width widths a
      begun (Const q) lawful is earlier = zero_holds (number_width q) is
      begun (Past r k) lawful is earlier = zero_holds (get_or widths r 0) is
      begun (Eq j) lawful is earlier = by_test (nat_eq c 0) refl is where
        by_test : (b : Bool) → nat_eq c 0 ≡ b → (b || does_begin_with equations c (Eq j ∷ [])) ≡ true → c < 2 ^ get_or widths j 0
        by_test true same one = let none = eqb-true c 0 same in let positive = pow_pos (get_or widths j 0) in omega arith
        by_test false same one = let b = begins_there equations c j (slice_get equations j) refl one in by_op j b.equation b.equation.op b.there refl b.begins (ltb-true j i lawful) earlier

-- a sample has for each input a number with the bits of its width
abbrev pub IsSampleFor : List EquationShape → List ℕ → List ℕ → Type 0
IsSampleFor equations widths sample = EachEquation equations (λ i e. e.op ≡ Input → get_or sample (count_by (λ (d : EquationShape). is_input d.op) (take i equations)) 0 < 2 ^ get_or widths i 0)

past_holds : (equations : List EquationShape) (outputs : List Operand) (widths : List ℕ) (before : List (List ℕ)) (i rec k : ℕ) → IsFlat equations outputs → AreWidths equations widths → AllHaveWidths widths before → PastOf equations i rec → number_before before rec k (initial_of equations rec) < 2 ^ get_or widths rec 0
past_holds equations outputs widths before i rec k flat all rows p = by_row (slice_get before (k - 1)) refl where
  within : rec < length widths
  within = omega (arith, slice_get_within equations rec p.equation p.there, all.count)

  initial : initial_of equations rec ≡ p.init
  initial = ap (λ (o : Option EquationShape). option_map_or (λ (e : EquationShape). init_of e.op) o 0) p.there ∙ ap init_of p.op

  by_row : (o : Option (List ℕ)) → slice_get before (k - 1) ≡ o → option_map_or (λ (row : List ℕ). get_or row rec 0) (slice_get before (k - 1)) (initial_of equations rec) < 2 ^ get_or widths rec 0
  by_row None is = rw is (rw initial (initial-holds equations outputs widths rec p.init p.first p.equation flat all p.there p.op))
  by_row (Some row) is = rw is (rows (k - 1) row is rec within)

operand_holds : (equations : List EquationShape) (outputs : List Operand) (widths : List ℕ) (before : List (List ℕ)) (row : List ℕ) (i : ℕ) (a : Operand) → IsFlat equations outputs → AreWidths equations widths → AllHaveWidths widths before → HaveWidths widths row → i < length equations → is_lawful_operand equations i a ≡ true → operand_number equations before row a < 2 ^ operand_width widths a
operand_holds equations outputs widths before row i (Const q) flat all rows here within lawful = number_width-holds q (ltb-true q (2 ^ 64) lawful)
operand_holds equations outputs widths before row i (Eq j) flat all rows here within lawful = let less : j < i = ltb-true j i lawful in here j (omega (arith, all.count))
operand_holds equations outputs widths before row i (Past rec k) flat all rows here within lawful = past_holds equations outputs widths before i rec k flat all rows (past_of equations i rec k lawful)

delay_holds : (equations : List EquationShape) (outputs : List Operand) (widths : List ℕ) (before : List (List ℕ)) (i c : ℕ) (e : EquationShape) (a : Operand) → IsFlat equations outputs → AreWidths equations widths → AllHaveWidths widths before → slice_get equations i ≡ Some e → e.op ≡ Delay c → is_lawful_operand equations i a ≡ true → get_or widths i 0 ≡ operand_width widths a → delayed_number equations before a c < 2 ^ get_or widths i 0
delay_holds equations outputs widths [] i c e a flat all rows there op lawful same = constant-holds (suc i) equations outputs widths i c e flat all (omega arith) there op
delay_holds equations outputs widths (row ∷ before) i c e a flat all rows there op lawful same = rw same (operand_holds equations outputs widths before row i a flat all (λ n r at. rows (suc n) r at) (rows 0 row refl) (slice_get_within equations i e there) lawful)

recurrence_holds : (w : ℕ) (points : List Point) → recurrence_number w points < 2 ^ w
recurrence_holds w [] = pow_pos w
recurrence_holds w (p ∷ points) = residue-lt w _

number_holds : (equations : List EquationShape) (outputs : List Operand) (widths : List ℕ) (before : List (List ℕ)) (sample row : List ℕ) (i : ℕ) (e : EquationShape) (op : Op) → IsFlat equations outputs → AreWidths equations widths → AllHaveWidths widths before → IsSampleFor equations widths sample → slice_get equations i ≡ Some e → e.op ≡ op → number_in (record { equations = equations; widths = widths; before = before; sample = sample; row = row }) i op e.args e.kinds < 2 ^ get_or widths i 0
number_holds equations outputs widths before sample row i e Input flat all rows lawful there op = lawful i e there op
number_holds equations outputs widths before sample row i e (Delay c) flat all rows lawful there op =
    let d = delay_at equations outputs widths i c e flat all there op in
    let R : List Operand → Type 0 = λ xs. list_all (is_lawful_operand equations i) xs ≡ true in
    let fits = (and_parts (is_lawful_operand equations i d.arg) true (subst R d.args (flat.operands i e there))).0 in
    let P : List Operand → Type 0 = λ xs. first_delayed (record { equations = equations; widths = widths; before = before; sample = sample; row = row }) xs c < 2 ^ get_or widths i 0 in
    subst P (sym d.args) (delay_holds equations outputs widths before i c e d.arg flat all rows there op fits d.width)
number_holds equations outputs widths before sample row i e (Rec init first) flat all rows lawful there op = recurrence_holds (get_or widths i 0) (points_in (record { equations = equations; widths = widths; before = before; sample = sample; row = row }) e.args e.kinds)
number_holds equations outputs widths before sample row i e other flat all rows lawful there op = residue-lt (get_or widths i 0) _

-- the row of a lawful sample, after such rows
pub row_of-holds : (equations : List EquationShape) (outputs : List Operand) (widths : List ℕ) (before : List (List ℕ)) (sample : List ℕ) → IsFlat equations outputs → AreWidths equations widths → AllHaveWidths widths before → IsSampleFor equations widths sample → HaveWidths widths (row_of equations widths before sample)
row_of-holds equations outputs widths before sample flat all rows lawful i within =
    let found = equation_at equations i (omega (arith, all.count)) in
    rw (row_of-at equations outputs widths before sample i found.0 flat found.1) (number_holds equations outputs widths before sample (row_of equations widths before sample) i found.0 found.0.op flat all rows lawful found.1 refl)

pub rows_after-hold : (equations : List EquationShape) (outputs : List Operand) (widths : List ℕ) (before samples : List (List ℕ)) → IsFlat equations outputs → AreWidths equations widths → AllHaveWidths widths before → ((n : ℕ) (sample : List ℕ) → slice_get samples n ≡ Some sample → IsSampleFor equations widths sample) → AllHaveWidths widths (rows_after equations widths before samples)
rows_after-hold equations outputs widths before [] flat all rows lawful n row at = cc
rows_after-hold equations outputs widths before (s ∷ samples) flat all rows lawful zero row at = let same : row_of equations widths before s ≡ row = cc in let P : List ℕ → Type 0 = λ r. HaveWidths widths r in subst P same (row_of-holds equations outputs widths before s flat all rows (lawful 0 s refl))
rows_after-hold equations outputs widths before (s ∷ samples) flat all rows lawful (suc n) row at = rows_after-hold equations outputs widths (row_of equations widths before s ∷ before) samples flat all (more (row_of-holds equations outputs widths before s flat all rows (lawful 0 s refl))) (λ k sample there. lawful (suc k) sample there) n row at where
  more : HaveWidths widths (row_of equations widths before s) → AllHaveWidths widths (row_of equations widths before s ∷ before)
  more here zero r there = let same : row_of equations widths before s ≡ r = cc in let P : List ℕ → Type 0 = λ x. HaveWidths widths x in subst P same here
  more here (suc k) r there = rows k r there

pub rows_of-hold : (equations : List EquationShape) (outputs : List Operand) (widths : List ℕ) (samples : List (List ℕ)) → IsFlat equations outputs → AreWidths equations widths → ((n : ℕ) (sample : List ℕ) → slice_get samples n ≡ Some sample → IsSampleFor equations widths sample) → (n : ℕ) (row : List ℕ) → slice_get (rows_of equations widths samples) n ≡ Some row → HaveWidths widths row
rows_of-hold equations outputs widths samples flat all lawful = rows_after-hold equations outputs widths [] samples flat all (λ n row at. absurd (let none : None ≡ Some row = at in cc)) lawful

input_is : (op : Op) → op ≡ Input → is_input op ≡ true
input_is op is = ap is_input is

row_at : (equations : List EquationShape) (sample : List ℕ) (i w : ℕ) (e : EquationShape) → IsRow (input_widths equations) sample → slice_get equations i ≡ Some e → is_input e.op ≡ true → e.declared ≡ Some w → get_or sample (count_by (λ (d : EquationShape). is_input d.op) (take i equations)) 0 < 2 ^ w
row_at [] sample i w e lawful there is declared = cc
row_at (d ∷ equations) sample zero w e lawful there is declared =
    let same : d ≡ e = cc in
    let P : EquationShape → Type 0 = λ x. is_input x.op ≡ true in
    let Q : EquationShape → Type 0 = λ x. x.declared ≡ Some w in
    first sample (is_input d.op) (subst P (sym same) is) (subst Q (sym same) declared) lawful where
      first : (numbers : List ℕ) (b : Bool) → b ≡ true → d.declared ≡ Some w → IsRow (cond b (unwrap_or d.declared 0 ∷ input_widths equations) (input_widths equations)) numbers → get_or numbers 0 0 < 2 ^ w
      first [] true given width row = absurd row
      first (n ∷ numbers) true given width row = let equal : unwrap_or d.declared 0 ≡ w = ap (λ (o : Option ℕ). unwrap_or o 0) width in let Q : ℕ → Type 0 = λ v. n < 2 ^ v in subst Q equal row.0
      first numbers false given width row = cc
row_at (d ∷ equations) sample (suc i) w e lawful there is declared =
    let count = sum_by-cons (λ (x : EquationShape). cond (is_input x.op) 1 0) d (take i equations) in
    let P : ℕ → Type 0 = λ k. get_or sample k 0 < 2 ^ w in
    subst P (sym count) (rest sample (is_input d.op) lawful (λ numbers row. row_at equations numbers i w e row there is declared)) where
      rest : (numbers : List ℕ) (b : Bool) → IsRow (cond b (unwrap_or d.declared 0 ∷ input_widths equations) (input_widths equations)) numbers → ((more : List ℕ) → IsRow (input_widths equations) more → get_or more (count_by (λ (x : EquationShape). is_input x.op) (take i equations)) 0 < 2 ^ w) → get_or numbers (cond b 1 0 + count_by (λ (x : EquationShape). is_input x.op) (take i equations)) 0 < 2 ^ w
      rest [] true row later = absurd row
      rest (n ∷ numbers) true row later = let place : 1 + count_by (λ (x : EquationShape). is_input x.op) (take i equations) ≡ suc (count_by (λ (x : EquationShape). is_input x.op) (take i equations)) = omega arith in rw place (later numbers row.1)
      rest numbers false row later = let place : 0 + count_by (λ (x : EquationShape). is_input x.op) (take i equations) ≡ count_by (λ (x : EquationShape). is_input x.op) (take i equations) = omega arith in rw place (later numbers row)

input_declared : (o : Option ℕ) → has_lawful_width Input o ≡ true → (w : ℕ) × (o ≡ Some w)
input_declared None lawful = cc
input_declared (Some w) lawful = (w, refl)

-- a row of numbers of the inputs' widths is a sample
pub IsSampleFor-from_IsRow : (equations : List EquationShape) (outputs : List Operand) (widths sample : List ℕ) → IsFlat equations outputs → AreWidths equations widths → IsRow (input_widths equations) sample → IsSampleFor equations widths sample
IsSampleFor-from_IsRow equations outputs widths sample flat all lawful i e there op =
    let P : Op → Type 0 = λ o. has_lawful_width o e.declared ≡ true in
    let declared = input_declared e.declared (subst P op (flat.widths i e there)) in
    let low = row_at equations sample i declared.0 e lawful there (input_is e.op op) declared.1 in
    let same = all.declared i e there declared.0 declared.1 in
    rw same low

-- every number of an equation on rows of numbers of the inputs' widths
pub rows_of-have_widths : (equations : List EquationShape) (outputs : List Operand) (widths : List ℕ) (samples : List (List ℕ)) → IsFlat equations outputs → AreWidths equations widths → ((n : ℕ) (sample : List ℕ) → slice_get samples n ≡ Some sample → IsRow (input_widths equations) sample) → (n : ℕ) (row : List ℕ) → slice_get (rows_of equations widths samples) n ≡ Some row → HaveWidths widths row
rows_of-have_widths equations outputs widths samples flat all lawful = rows_of-hold equations outputs widths samples flat all (λ n sample there. IsSampleFor-from_IsRow equations outputs widths sample flat all (lawful n sample there))
