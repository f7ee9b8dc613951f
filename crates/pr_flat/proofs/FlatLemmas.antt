-- Tests that show equations to be flat, where they compute.
use Rattle.std.proofs.Common.{◌≡◌, ◌≢◌, ℕ, zero, suc, ◌^◌, ◌+◌, ◌<◌, ◌≤◌, Bool, true, false, not, ◌&&◌, ◌||◌, nat_eq, nat_lt, nat_le, Some, List, [], ◌∷◌, length, refl, ap, subst, inl, inr, arith, zero-add}
use Rattle.std.specs.List.{slice_get, list_all, list_any}
use Rattle.std.proofs.lemmas.Bool.{cases_lt, and_parts, ltb-true, leb-true, eqb-true, le-leb, lt-ltb, and_from, not-true}
use Rattle.std.proofs.lemmas.Bool.Decides.{nat_tests}
use Rattle.pr_flat.specs.declared.equations.Operand.{Operand}
use Rattle.pr_flat.specs.declared.equations.Operand.TheVariants.{Const, Eq, Past}
use Rattle.pr_flat.specs.declared.equations.Op.{Op}
use Rattle.pr_flat.specs.declared.equations.Op.TheVariants.{Rec}
use Rattle.pr_flat.specs.Shape.{EquationShape, EachEquation}
use Rattle.pr_flat.specs.Facts.{arity, is_input, is_rec, has_lawful_kinds, has_lawful_width, has_lawful_ends, has_lawful_constant, is_lawful_operand, is_lawful_output, reads_equation, reads_past, DependsOnPast, ReadsPast, Reads, IsBody, IsApart, IsFlat}
use Rattle.pr_flat.proofs.WidthLemmas.{PastOf, past_of}

-- whether an operand is an equation of a body, short of its recurrence
abbrev pub reads_body : ℕ → ℕ → Operand → Bool
reads_body first rec (Const c) = false
reads_body first rec (Eq j) = nat_le first j && nat_lt j rec
reads_body first rec (Past r k) = false

list_any-more : (p q : Operand → Bool) (args : List Operand) → ((a : Operand) → p a ≡ true → q a ≡ true) → list_any p args ≡ true → list_any q args ≡ true
list_any-more p q [] more any = any
list_any-more p q (a ∷ args) more any = by_test (p a) (q a) (list_any p args) (list_any q args) (more a) (list_any-more p q args more) any where
  by_test : (x y u v : Bool) → (x ≡ true → y ≡ true) → (u ≡ true → v ≡ true) → (x || u) ≡ true → (y || v) ≡ true
  by_test true y u v one rest any = ap (λ b. b || v) (one refl)
  by_test false true u v one rest any = refl
  by_test false false u v one rest any = rest any

list_any-less : (p q : Operand → Bool) (args : List Operand) → ((a : Operand) → p a ≡ true → q a ≡ true) → list_any q args ≡ false → list_any p args ≡ false
list_any-less p q args more none = by_test (list_any p args) refl where
  by_test : (b : Bool) → list_any p args ≡ b → list_any p args ≡ false
  by_test true is = let yes = list_any-more p q args more is in cc
  by_test false is = is

equation_of_body : (first rec i : ℕ) → first ≤ i → i < rec → (a : Operand) → reads_equation i a ≡ true → reads_body first rec a ≡ true
equation_of_body first rec i low high (Const c) reads = cc
equation_of_body first rec i low high (Eq j) reads = let same : j ≡ i = eqb-true j i reads in let less : first ≤ j = omega arith in let more : j < rec = omega arith in grind (arith, nat_tests)
equation_of_body first rec i low high (Past r k) reads = cc

-- a past that is read is that of the recurrence in the body of which it stands
past_read : (equations : List EquationShape) (i rec : ℕ) (args : List Operand) → list_all (is_lawful_operand equations i) args ≡ true → list_any (reads_past rec) args ≡ true → PastOf equations i rec
past_read equations i rec [] lawful reads = cc
past_read equations i rec (Const c ∷ args) lawful reads = past_read equations i rec args (and_parts (nat_lt c (2 ^ 64)) (list_all (is_lawful_operand equations i) args) lawful).1 reads
past_read equations i rec (Eq j ∷ args) lawful reads = past_read equations i rec args (and_parts (nat_lt j i) (list_all (is_lawful_operand equations i) args) lawful).1 reads
past_read equations i rec (Past r k ∷ args) lawful reads =
    let parts = and_parts (is_lawful_operand equations i (Past r k)) (list_all (is_lawful_operand equations i) args) lawful in
    by_test (nat_eq r rec) refl parts.0 parts.1 reads (past_read equations i rec args parts.1) where
      by_test : (b : Bool) → nat_eq r rec ≡ b → is_lawful_operand equations i (Past r k) ≡ true → list_all (is_lawful_operand equations i) args ≡ true → (nat_eq r rec || list_any (reads_past rec) args) ≡ true → (list_any (reads_past rec) args ≡ true → PastOf equations i rec) → PastOf equations i rec
      by_test true is one all any rest = let P : ℕ → Type 0 = λ x. PastOf equations i x in subst P (eqb-true r rec is) (past_of equations i r k one)
      by_test false is one all any rest = rest (let P : Bool → Type 0 = λ b. (b || list_any (reads_past rec) args) ≡ true in subst P is any)

-- an equation that is read is an earlier one
equation_read : (equations : List EquationShape) (i j : ℕ) (args : List Operand) → list_all (is_lawful_operand equations i) args ≡ true → list_any (reads_equation j) args ≡ true → j < i
equation_read equations i j [] lawful reads = absurd (let none : false ≡ true = reads in cc)
equation_read equations i j (Const c ∷ args) lawful reads = equation_read equations i j args (and_parts (nat_lt c (2 ^ 64)) (list_all (is_lawful_operand equations i) args) lawful).1 reads
equation_read equations i j (Past r k ∷ args) lawful reads = equation_read equations i j args (and_parts (is_lawful_operand equations i (Past r k)) (list_all (is_lawful_operand equations i) args) lawful).1 reads
equation_read equations i j (Eq k ∷ args) lawful reads =
    let parts = and_parts (nat_lt k i) (list_all (is_lawful_operand equations i) args) lawful in
    by_test (nat_eq k j) refl (ltb-true k i parts.0) reads (equation_read equations i j args parts.1) where
      by_test : (b : Bool) → nat_eq k j ≡ b → k < i → (nat_eq k j || list_any (reads_equation j) args) ≡ true → (list_any (reads_equation j) args ≡ true → j < i) → j < i
      by_test true is one any rest = let same = eqb-true k j is in omega arith
      by_test false is one any rest = rest (let P : Bool → Type 0 = λ b. (b || list_any (reads_equation j) args) ≡ true in subst P is any)

-- no equation after a recurrence reads its body, short of the recurrence
abbrev pub AreApart : List EquationShape → Type 0
AreApart equations = EachEquation equations (λ rec e. (init first : ℕ) → e.op ≡ Rec init first → (j : ℕ) (d : EquationShape) → slice_get equations j ≡ Some d → rec < j → list_any (reads_body first rec) d.args ≡ false)

-- what depends on the past of a recurrence short of it stands in its body
pub depends_in_body : (equations : List EquationShape) (rec i : ℕ) → EachEquation equations (λ j e. list_all (is_lawful_operand equations j) e.args ≡ true) → AreApart equations → DependsOnPast equations rec i → PastOf equations i rec
depends_in_body equations rec i lawful apart (ReadsPast k e there reads) = past_read equations k rec e.args (lawful k e there) reads
depends_in_body equations rec i lawful apart (Reads k j e there reads other before) =
    let p = depends_in_body equations rec j lawful apart before in
    let high = p.high in
    let low = p.low in
    let later : j < k = equation_read equations k j e.args (lawful k e there) reads in
    record {
      equation = p.equation;
      init = p.init;
      first = p.first;
      there = p.there;
      op = p.op;
      low = omega arith;
      high = elim (cases_lt rec k) as (λ _. k ≤ rec) [
        | inl after ↦ absurd (let none = apart rec p.equation p.there p.init p.first p.op k e there after in let yes = list_any-more (reads_equation j) (reads_body p.first rec) e.args (equation_of_body p.first rec j low (let differs = other in omega arith)) reads in cc)
        | inr within ↦ within
      ];
    }

-- bodies that are read nowhere else are apart
pub apart_by_bodies : (equations : List EquationShape) (outputs : List Operand) → EachEquation equations (λ j e. list_all (is_lawful_operand equations j) e.args ≡ true) → AreApart equations → EachEquation equations (λ rec e. (init first : ℕ) → e.op ≡ Rec init first → list_any (reads_body first rec) outputs ≡ false) → (rec i : ℕ) → DependsOnPast equations rec i → i ≢ rec → IsApart equations outputs rec i
apart_by_bodies equations outputs lawful apart outside rec i depends other =
    let p = depends_in_body equations rec i lawful apart depends in
    let high = p.high in
    let low = p.low in
    let less : i < rec = omega arith in
    let more = equation_of_body p.first rec i low less in
    record {
      later = λ j e there after. list_any-less (reads_equation i) (reads_body p.first rec) e.args more (apart rec p.equation p.there p.init p.first p.op j e there after);
      outside = list_any-less (reads_equation i) (reads_body p.first rec) outputs more (outside rec p.equation p.there p.init p.first p.op);
    }

-- whether a test holds of each equation and its number, from this number on
abbrev pub each_from : (ℕ → EquationShape → Bool) → ℕ → List EquationShape → Bool
each_from test i [] = true
each_from test i (e ∷ equations) = test i e && each_from test (i + 1) equations

each_from-at : (test : ℕ → EquationShape → Bool) (i : ℕ) (equations : List EquationShape) → each_from test i equations ≡ true → (k : ℕ) (e : EquationShape) → slice_get equations k ≡ Some e → test (i + k) e ≡ true
each_from-at test i [] all k e there = cc
each_from-at test i (d ∷ equations) all zero e there =
    let parts = and_parts (test i d) (each_from test (i + 1) equations) all in
    let same : d ≡ e = cc in
    let here : i ≡ i + 0 = omega arith in
    let P : ℕ → Type 0 = λ x. test x e ≡ true in
    let Q : EquationShape → Type 0 = λ x. test i x ≡ true in
    subst P here (subst Q same parts.0)
each_from-at test i (d ∷ equations) all (suc k) e there =
    let parts = and_parts (test i d) (each_from test (i + 1) equations) all in
    let place : i + 1 + k ≡ i + suc k = omega arith in
    let P : ℕ → Type 0 = λ x. test x e ≡ true in
    subst P place (each_from-at test (i + 1) equations parts.1 k e there)

pub each_by_test : (test : ℕ → EquationShape → Bool) (equations : List EquationShape) → each_from test 0 equations ≡ true → EachEquation equations (λ i e. test i e ≡ true)
each_by_test test equations all i e there = let P : ℕ → Type 0 = λ x. test x e ≡ true in subst P (zero-add i) (each_from-at test 0 equations all i e there)

-- a body with no recurrence in it, which no later equation and no output reads
abbrev pub is_lawful_body : List EquationShape → List Operand → ℕ → Op → Bool
is_lawful_body equations outputs rec (Rec init first) =
    nat_le first rec
    && (each_from (λ i (e : EquationShape). not (nat_le first i && nat_lt i rec) || not (is_rec e.op)) 0 equations
    && (each_from (λ i (e : EquationShape). not (nat_lt rec i) || not (list_any (reads_body first rec) e.args)) 0 equations
    && not (list_any (reads_body first rec) outputs)))
is_lawful_body equations outputs rec op = true

abbrev pub is_lawful_equation : List EquationShape → ℕ → EquationShape → Bool
is_lawful_equation equations i e =
    nat_eq (length e.args) (arity e.op)
    && (nat_eq (length e.kinds) (arity e.op)
    && (has_lawful_kinds e.op e.kinds
    && (has_lawful_width e.op e.declared
    && (has_lawful_ends e.op
    && (has_lawful_constant equations e.op e.args
    && list_all (is_lawful_operand equations i) e.args)))))

abbrev pub is_flat : List EquationShape → List Operand → Bool
is_flat equations outputs =
    nat_le (length equations) 16384
    && (list_any (λ (e : EquationShape). is_input e.op) equations
    && (nat_lt 0 (length outputs)
    && (list_all (is_lawful_output (length equations)) outputs
    && (each_from (is_lawful_equation equations) 0 equations
    && each_from (λ i (e : EquationShape). is_lawful_body equations outputs i e.op) 0 equations))))

-- the parts of a test of one equation
record IsLawfulEquation (equations : List EquationShape) (i : ℕ) (e : EquationShape) : Type 0 where
  args : length e.args ≡ arity e.op
  kinds : length e.kinds ≡ arity e.op
  numbers : has_lawful_kinds e.op e.kinds ≡ true
  width : has_lawful_width e.op e.declared ≡ true
  ends : has_lawful_ends e.op ≡ true
  constant : has_lawful_constant equations e.op e.args ≡ true
  operands : list_all (is_lawful_operand equations i) e.args ≡ true

equation_by_test : (equations : List EquationShape) (i : ℕ) (e : EquationShape) → is_lawful_equation equations i e ≡ true → IsLawfulEquation equations i e
equation_by_test equations i e all =
    let a = and_parts (nat_eq (length e.args) (arity e.op)) _ all in
    let b = and_parts (nat_eq (length e.kinds) (arity e.op)) _ a.1 in
    let c = and_parts (has_lawful_kinds e.op e.kinds) _ b.1 in
    let d = and_parts (has_lawful_width e.op e.declared) _ c.1 in
    let f = and_parts (has_lawful_ends e.op) _ d.1 in
    let g = and_parts (has_lawful_constant equations e.op e.args) _ f.1 in
    record { args = eqb-true (length e.args) (arity e.op) a.0; kinds = eqb-true (length e.kinds) (arity e.op) b.0; numbers = c.0; width = d.0; ends = f.0; constant = g.0; operands = g.1 }

not_or : (x y : Bool) → (not x || not y) ≡ true → x ≡ true → y ≡ false
not_or true true any is = cc
not_or true false any is = refl
not_or false y any is = cc

record IsLawfulBody (equations : List EquationShape) (outputs : List Operand) (rec first : ℕ) : Type 0 where
  body : IsBody equations rec first
  later : EachEquation equations (λ j d. rec < j → list_any (reads_body first rec) d.args ≡ false)
  outside : list_any (reads_body first rec) outputs ≡ false

body_by_test : (equations : List EquationShape) (outputs : List Operand) (rec init first : ℕ) → is_lawful_body equations outputs rec (Rec init first) ≡ true → IsLawfulBody equations outputs rec first
body_by_test equations outputs rec init first all =
    let a = and_parts (nat_le first rec) _ all in
    let b = and_parts (each_from (λ i (e : EquationShape). not (nat_le first i && nat_lt i rec) || not (is_rec e.op)) 0 equations) _ a.1 in
    let c = and_parts (each_from (λ i (e : EquationShape). not (nat_lt rec i) || not (list_any (reads_body first rec) e.args)) 0 equations) _ b.1 in
    record {
      body = record { ordered = leb-true first rec a.0; alone = λ i e there low high. not_or (nat_le first i && nat_lt i rec) (is_rec e.op) (each_by_test (λ i (e : EquationShape). not (nat_le first i && nat_lt i rec) || not (is_rec e.op)) equations b.0 i e there) (and_from (nat_le first i) (nat_lt i rec) (le-leb first i low) (lt-ltb i rec high)) };
      later = λ j d there after. not_or (nat_lt rec j) (list_any (reads_body first rec) d.args) (each_by_test (λ i (e : EquationShape). not (nat_lt rec i) || not (list_any (reads_body first rec) e.args)) equations c.0 j d there) (lt-ltb rec j after);
      outside = not-true (list_any (reads_body first rec) outputs) c.1;
    }

body_at : (equations : List EquationShape) (outputs : List Operand) (rec init first : ℕ) (op : Op) → is_lawful_body equations outputs rec op ≡ true → op ≡ Rec init first → IsLawfulBody equations outputs rec first
body_at equations outputs rec init first op all is = body_by_test equations outputs rec init first (let P : Op → Type 0 = λ o. is_lawful_body equations outputs rec o ≡ true in subst P is all)

-- equations that pass the tests are flat
pub flat_by_test : (equations : List EquationShape) (outputs : List Operand) → is_flat equations outputs ≡ true → IsFlat equations outputs
flat_by_test equations outputs all =
    let a = and_parts (nat_le (length equations) 16384) _ all in
    let b = and_parts (list_any (λ (e : EquationShape). is_input e.op) equations) _ a.1 in
    let c = and_parts (nat_lt 0 (length outputs)) _ b.1 in
    let d = and_parts (list_all (is_lawful_output (length equations)) outputs) _ c.1 in
    let f = and_parts (each_from (is_lawful_equation equations) 0 equations) _ d.1 in
    let lawful : EachEquation equations (λ i e. IsLawfulEquation equations i e) = λ i e there. equation_by_test equations i e (each_by_test (is_lawful_equation equations) equations f.0 i e there) in
    let bodies : EachEquation equations (λ i e. (init first : ℕ) → e.op ≡ Rec init first → IsLawfulBody equations outputs i first) = λ i e there init first op. body_at equations outputs i init first e.op (each_by_test (λ i (e : EquationShape). is_lawful_body equations outputs i e.op) equations f.1 i e there) op in
    let operands : EachEquation equations (λ i e. list_all (is_lawful_operand equations i) e.args ≡ true) = λ i e there. (lawful i e there).operands in
    record {
      few = leb-true (length equations) 16384 a.0;
      input = b.0;
      output = ltb-true 0 (length outputs) c.0;
      args = λ i e there. (lawful i e there).args;
      kinds = λ i e there. (lawful i e there).kinds;
      numbers = λ i e there. (lawful i e there).numbers;
      widths = λ i e there. (lawful i e there).width;
      ends = λ i e there. (lawful i e there).ends;
      constants = λ i e there. (lawful i e there).constant;
      operands = operands;
      given = d.0;
      bodies = λ i e there init first op. (bodies i e there init first op).body;
      apart = apart_by_bodies equations outputs operands (λ rec e there init first op. (bodies rec e there init first op).later) (λ rec e there init first op. (bodies rec e there init first op).outside);
    }
