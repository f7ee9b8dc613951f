-- Constants of 64 bits, one after the other.
use Rattle.std.proofs.Common.{◌≡◌, ◌∙◌, ◌<◌, ◌≤◌, ℕ, zero, suc, ◌+◌, Bool, true, false, ◌&&◌, List, [], ◌∷◌, length, take, get_or, None, refl, sym, ap, add-one, subst, arith}
use Rattle.std.specs.List.{list_all}
use Rattle.std.proofs.lemmas.Bool.{and_parts}
use Rattle.pr_flat.specs.declared.equations.Equation.{Equation}
use Rattle.pr_flat.specs.Shape.{EquationShape, shapes_of}
use Rattle.pr_lang.specs.declared.trees.Program.{Program}
use Rattle.pr_flat.specs.declared.equations.Operand.{Operand}
use Rattle.pr_flat.specs.Facts.{IsFlat}
use Rattle.pr_scope.specs.Walk.{offence}
use Rattle.pr_expand_spec.specs.Programs.{Flattened, equations_of}
use Rattle.pr_scope_facts.specs.Numbers.{have_numbers, is_number}
use Rattle.pr_scope_facts.proofs.FlatLaw.{program-flat}

both : (a b : Bool) → a ≡ true → b ≡ true → (a && b) ≡ true
both true true x y = refl
both true false x y = y
both false b x y = x

one_more : {A : Type 0} (test : A → Bool) (xs : List A) (i : ℕ) (d : A) → i < length xs → list_all test (take i xs) ≡ true → test (get_or xs i d) ≡ true → list_all test (take (suc i) xs) ≡ true
one_more test [] i d h all one = absurd (omega (arith, h))
one_more test (y ∷ xs) zero d h all one = both (test y) true one refl
one_more test (y ∷ xs) (suc i) d h all one =
    let parts = and_parts (test y) (list_all test (take i xs)) all in
    both (test y) (list_all test (take (suc i) xs)) parts.0 (one_more test xs i d (omega (arith, h)) parts.1 one)

pub all_more : {A : Type 0} (test : A → Bool) (xs : List A) (i : ℕ) (d : A) → i < length xs → list_all test (take i xs) ≡ true → test (get_or xs i d) ≡ true → list_all test (take (i + 1) xs) ≡ true
all_more test xs i d h all one = ap (λ (n : ℕ). list_all test (take n xs)) (add-one i) ∙ one_more test xs i d h all one

pub fitting : (es : List Equation) → list_all (λ (e : Equation). list_all is_number e.args.items) es ≡ list_all (λ (e : EquationShape). list_all is_number e.args) (shapes_of es)
fitting [] = refl
fitting (e ∷ es) = ap (λ (b : Bool). list_all is_number e.args.items && b) (fitting es)

-- equations that are those of a program without an offence are flat
pub made_flat : (program : Program) (es : List Equation) (outputs : List Operand) → offence program ≡ None → record { equations = shapes_of es; outputs = outputs } ≡ equations_of program → length (shapes_of es) ≤ 16384 → list_all (λ (e : EquationShape). list_all is_number e.args) (shapes_of es) ≡ true → list_all is_number outputs ≡ true → IsFlat (shapes_of es) outputs
made_flat program es outputs kept is few numbers given =
    let flat : Flattened = record { equations = shapes_of es; outputs = outputs } in
    let few_there : length (equations_of program).equations ≤ 16384 = subst (λ (f : Flattened). length f.equations ≤ 16384) is few in
    let fit_there : have_numbers (equations_of program).equations (equations_of program).outputs ≡ true = subst (λ (f : Flattened). have_numbers f.equations f.outputs ≡ true) is (both _ _ numbers given) in
    subst (λ (f : Flattened). IsFlat f.equations f.outputs) (sym is) (program-flat program kept few_there fit_there)
