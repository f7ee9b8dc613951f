-- What laws say of answers.
use Rattle.std.specs.Prelude.{◌≡◌}

-- there is one of these at most
abbrev pub AtMostOne : {A : Type 0} → (A → Type 0) → Type 0
AtMostOne {A} Is = (a b : A) → Is a → Is b → a ≡ b

-- where there is one of the first, there is none of the second
abbrev pub NeverBoth : {A B : Type 0} → (A → Type 0) → (B → Type 0) → Type 0
NeverBoth {A} {B} First Second = (a : A) (b : B) → First a → Second b → ⊥
