-- What steps of the walk come to, where they meet no offence.
use Rattle.std.proofs.Common.{◌≡◌, Bool, true, false, Option, Some, None, Result, Ok, Err, refl, arith}
use Rattle.std.specs.Option.{option_and_then}
use Rattle.std.proofs.lemmas.Option.{none-some}
use Rattle.pr_scope_names.specs.declared.rules.Offence.{Offence}
use Rattle.pr_scope_names.specs.declared.rules.Rule.{Rule}
use Rattle.pr_scope_names.specs.Outcomes.{and_then, provided}

pub not_ok : {A : Type 0} (o : Offence) (x : A) → Err o ≡ Ok x → ⊥
not_ok o x h = grind (arith, h)

-- the first step has a value, and the second has one of it
pub then_ok : {A B : Type 0} (o : Result A Offence) (k : A → Result B Offence) (y : B) → and_then o k ≡ Ok y → (x : A) × (o ≡ Ok x) × (k x ≡ Ok y)
then_ok (Ok x) k y h = (x, refl, h)
then_ok (Err e) k y h = absurd (not_ok e y h)

-- the rule is kept
pub provided_ok : {A : Type 0} (test : Bool) (rule : Rule) (rest : Result A Offence) (y : A) → provided test rule rest ≡ Ok y → (test ≡ true) × (rest ≡ Ok y)
provided_ok true rule rest y h = (refl, h)
provided_ok false rule rest y h = absurd (not_ok _ y h)

pub same_ok : {A : Type 0} (x y : A) → ◌≡◌ {A = Result A Offence} (Ok x) (Ok y) → x ≡ y
same_ok x y h = grind (arith, h)

pub then_some : {A B : Type 0} (o : Option A) (k : A → Option B) (y : B) → option_and_then k o ≡ Some y → (x : A) × (o ≡ Some x) × (k x ≡ Some y)
then_some None k y h = absurd (none-some y h)
then_some (Some x) k y h = (x, refl, h)
