-- Two options, or two lists, whose values stand in a relation.
use Rattle.std.proofs.Common.{◌≡◌, Bool, true, false, cond, List, [], ◌∷◌, map, Option, Some, None, option_map, is_some, refl, ap₂, subst}
use Rattle.std.specs.Option.{option_and_then, IfSome}
use Rattle.std.specs.List.{AllZip}

-- none on both sides, or values that stand in the relation
abbrev pub Both : {A B : Type 0} → (A → B → Type 0) → Option A → Option B → Type 0
Both R None None = Unit {0}
Both R (Some a) (Some b) = R a b
Both R _ _ = ⊥

pub both-and_then : {A B C D : Type 0} (R : A → B → Type 0) (S : C → D → Type 0) (f : A → Option C) (g : B → Option D) (a : Option A) (b : Option B) → Both R a b → ((x : A) (y : B) → R x y → Both S (f x) (g y)) → Both S (option_and_then f a) (option_and_then g b)
both-and_then R S f g None None are next = tt
both-and_then R S f g None (Some y) are next = absurd are
both-and_then R S f g (Some x) None are next = absurd are
both-and_then R S f g (Some x) (Some y) are next = next x y are

pub both-map : {A B C D : Type 0} (R : A → B → Type 0) (S : C → D → Type 0) (f : A → C) (g : B → D) (a : Option A) (b : Option B) → Both R a b → ((x : A) (y : B) → R x y → S (f x) (g y)) → Both S (option_map f a) (option_map g b)
both-map R S f g None None are next = tt
both-map R S f g None (Some y) are next = absurd are
both-map R S f g (Some x) None are next = absurd are
both-map R S f g (Some x) (Some y) are next = next x y are

-- the same option, and two continuations
pub same-and_then : {A C D : Type 0} (S : C → D → Type 0) (f : A → Option C) (g : A → Option D) (a : Option A) → ((x : A) → Both S (f x) (g x)) → Both S (option_and_then f a) (option_and_then g a)
same-and_then S f g None next = tt
same-and_then S f g (Some x) next = next x

pub same-map : {A C D : Type 0} (S : C → D → Type 0) (f : A → C) (g : A → D) (a : Option A) → ((x : A) → S (f x) (g x)) → Both S (option_map f a) (option_map g a)
same-map S f g None next = tt
same-map S f g (Some x) next = next x

both-test : {A B : Type 0} (R : A → B → Type 0) (x : A) (y : B) (c : Bool) → R x y → Both R (cond c (Some x) None) (cond c (Some y) None)
both-test R x y true are = are
both-test R x y false are = tt

-- the same test on both sides
pub both-cond : {A B : Type 0} (R : A → B → Type 0) (x : A) (y : B) (c d : Bool) → c ≡ d → R x y → Both R (cond c (Some x) None) (cond d (Some y) None)
both-cond R x y c d same are = subst (λ e. Both R (cond c (Some x) None) (cond e (Some y) None)) same (both-test R x y c are)

pub both-choice : {A B : Type 0} (R : A → B → Type 0) (o p : Option A) (q r : Option B) (c : Bool) → Both R o q → Both R p r → Both R (cond c o p) (cond c q r)
both-choice R o p q r c left right = elim c as (λ e. Both R (cond e o p) (cond e q r)) [ true ↦ left | false ↦ right ]

pub both-is_some : {A B : Type 0} (R : A → B → Type 0) (a : Option A) (b : Option B) → Both R a b → is_some a ≡ is_some b
both-is_some R None None are = refl
both-is_some R None (Some y) are = absurd are
both-is_some R (Some x) None are = absurd are
both-is_some R (Some x) (Some y) are = refl

pub some-choice : {A : Type 0} (P : A → Type 0) (o p : Option A) (c : Bool) → IfSome o P → IfSome p P → IfSome (cond c o p) P
some-choice P o p c left right = elim c as (λ e. IfSome (cond e o p) P) [ true ↦ left | false ↦ right ]

-- a function that sees no difference makes the same list
pub each-map : {A B C : Type 0} (R : A → B → Type 0) (f : A → C) (g : B → C) → ((x : A) (y : B) → R x y → f x ≡ g y) → (xs : List A) (ys : List B) → AllZip R xs ys → map f xs ≡ map g ys
each-map R f g same [] [] are = refl
each-map R f g same [] (y ∷ ys) are = absurd are
each-map R f g same (x ∷ xs) [] are = absurd are
each-map R f g same (x ∷ xs) (y ∷ ys) are = ap₂ (λ c cs. c ∷ cs) (same x y are.0) (each-map R f g same xs ys are.1)
