-- Tests of two sides, and what they tell.
use Rattle.std.proofs.Common.{◌≡◌, Bool, true, false, ◌⊎◌, inl, inr, refl}

abbrev pub either : Bool → Bool → Bool
either true b = true
either false b = b

abbrev pub both : Bool → Bool → Bool
both true b = b
both false b = false

-- not both
abbrev pub apart : Bool → Bool → Bool
apart true true = false
apart true false = true
apart false b = true

abbrev pub solid : Bool → Bool
solid true = false
solid false = true

pub both_parts : (a b : Bool) → both a b ≡ true → (a ≡ true) × (b ≡ true)
both_parts true b h = (refl, h)
both_parts false b h = absurd cc

pub neither : (a b : Bool) → either a b ≡ false → (a ≡ false) × (b ≡ false)
neither true b h = absurd cc
neither false b h = (refl, h)

pub one_true : (a b : Bool) → either a b ≡ true → (a ≡ true) ⊎ (b ≡ true)
one_true true b h = inl refl
one_true false b h = inr h

pub left_true : (a b : Bool) → a ≡ true → either a b ≡ true
left_true true b h = refl
left_true false b h = absurd cc

pub right_true : (a b : Bool) → b ≡ true → either a b ≡ true
right_true true b h = refl
right_true false b h = h

pub both_true : (a b : Bool) → a ≡ true → b ≡ true → both a b ≡ true
both_true true b h i = i
both_true false b h i = absurd cc

pub first_false : (a b : Bool) → both a b ≡ false → a ≡ true → b ≡ false
first_false true b h i = h
first_false false b h i = absurd cc

pub is_apart : (a b : Bool) → apart a b ≡ true → a ≡ true → b ≡ false
is_apart true true h i = absurd cc
is_apart true false h i = refl
is_apart false b h i = absurd cc

pub apart_from : (a b : Bool) → b ≡ false → apart a b ≡ true
apart_from true true h = absurd cc
apart_from true false h = refl
apart_from false b h = refl

pub is_solid : (a : Bool) → solid a ≡ true → a ≡ false
is_solid true h = absurd cc
is_solid false h = refl

pub not_empty : (a : Bool) → solid a ≡ true → a ≡ true → ⊥
not_empty true h i = absurd cc
not_empty false h i = absurd cc

pub either-false : (a : Bool) → either a false ≡ a
either-false true = refl
either-false false = refl

pub either_assoc : (a b c : Bool) → either (either a b) c ≡ either a (either b c)
either_assoc true b c = refl
either_assoc false b c = refl
