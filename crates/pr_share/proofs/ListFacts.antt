-- Places of lists.
use Rattle.std.proofs.Common.{◌≡◌, ℕ, zero, suc, ◌+◌, ◌<◌, cond, Bool, false, List, [], ◌∷◌, length, get_or, map, Option, Some, None, is_some, slice_get, refl, sym, ap, ap₂, ◌∙◌, arith, true≢false}
use Rattle.std.specs.List.{count_by}
use Rattle.std.specs.Simd.Lanes.{zip2}
use Rattle.std.proofs.lemmas.List.Sums.{sum_by-cons}
use Rattle.std.proofs.Math.ListN.{set}

pub got_at : {X : Type 0} (xs : List X) (i : ℕ) → i < length xs → (x : X) × (slice_get xs i ≡ Some x)
got_at [] i h = absurd (omega arith)
got_at (x ∷ xs) zero h = (x, refl)
got_at (x ∷ xs) (suc i) h = got_at xs i (omega arith)

pub got_within : {X : Type 0} (xs : List X) (i : ℕ) (x : X) → slice_get xs i ≡ Some x → i < length xs
got_within [] i x e = absurd (let z = e in cc)
got_within (y ∷ xs) zero x e = omega arith
got_within (y ∷ xs) (suc i) x e = let h = got_within xs i x e in omega arith

pub set_same : {X : Type 0} (xs : List X) (i : ℕ) (x y : X) → slice_get (set xs i x) i ≡ Some y → x ≡ y
set_same [] i x y e = absurd (let z = e in cc)
set_same (z ∷ xs) zero x y e = cc
set_same (z ∷ xs) (suc i) x y e = set_same xs i x y e

pub set_other : {X : Type 0} (xs : List X) (i j : ℕ) (x : X) → (j ≡ i → ⊥) → slice_get (set xs i x) j ≡ slice_get xs j
set_other [] i j x h = refl
set_other (z ∷ xs) zero zero x h = absurd (h refl)
set_other (z ∷ xs) zero (suc j) x h = refl
set_other (z ∷ xs) (suc i) zero x h = refl
set_other (z ∷ xs) (suc i) (suc j) x h = set_other xs i j x (λ e. h (ap suc e))

pub same_some : {X : Type 0} (o : Option X) (x y : X) → o ≡ Some x → o ≡ Some y → x ≡ y
same_some o x y e f = let z = sym e ∙ f in cc

-- the element at a place
pub got_from : {X : Type 0} (xs : List X) (i : ℕ) (x : X) → i < length xs → x ≡ get_or xs i x → slice_get xs i ≡ Some x
got_from [] i x h e = absurd (omega arith)
got_from (y ∷ xs) zero x h e = ap (λ z. Some z) (sym e)
got_from (y ∷ xs) (suc i) x h e = got_from xs i x (omega arith) e

pub got_any : {X : Type 0} (xs : List X) (i : ℕ) (d : X) → i < length xs → slice_get xs i ≡ Some (get_or xs i d)
got_any [] i d h = absurd (omega arith)
got_any (y ∷ xs) zero d h = refl
got_any (y ∷ xs) (suc i) d h = got_any xs i d (omega arith)

pub none_from : {X : Type 0} (o : Option X) → is_some o ≡ false → o ≡ None
none_from None h = refl
none_from (Some x) h = absurd (true≢false h)

pub mapped_at : {X Y : Type 0} (f : X → Y) (xs : List X) (i : ℕ) (x : X) (y : Y) → slice_get xs i ≡ Some x → slice_get (map f xs) i ≡ Some y → y ≡ f x
mapped_at f [] i x y e g = absurd (let z = e in cc)
mapped_at f (z ∷ xs) zero x y e g = let a : z ≡ x = cc in let b : f z ≡ y = cc in sym b ∙ ap f a
mapped_at f (z ∷ xs) (suc i) x y e g = mapped_at f xs i x y e g

-- what is made of an element that is set, where that is the same as before
pub map_set : {X Y : Type 0} (f : X → Y) (xs : List X) (i : ℕ) (x new : X) → slice_get xs i ≡ Some x → f new ≡ f x → map f (set xs i new) ≡ map f xs
map_set f [] i x new e same = refl
map_set f (z ∷ xs) zero x new e same = let a : z ≡ x = cc in ap (λ y. y ∷ map f xs) (same ∙ ap f (sym a))
map_set f (z ∷ xs) (suc i) x new e same = ap (λ ys. f z ∷ ys) (map_set f xs i x new e same)

pub map_at : {X Y : Type 0} (f : X → Y) (xs : List X) (i : ℕ) (x : X) → slice_get xs i ≡ Some x → slice_get (map f xs) i ≡ Some (f x)
map_at f [] i x e = absurd (let z = e in cc)
map_at f (z ∷ xs) zero x e = let a : z ≡ x = cc in ap (λ y. Some (f y)) a
map_at f (z ∷ xs) (suc i) x e = map_at f xs i x e

-- ---- two lists side by side
pub zip_at : {X Y Z : Type 0} (f : X → Y → Z) (xs : List X) (ys : List Y) (i : ℕ) (x : X) (y : Y) → slice_get xs i ≡ Some x → slice_get ys i ≡ Some y → slice_get (zip2 f xs ys) i ≡ Some (f x y)
zip_at f [] ys i x y a b = absurd (let z = a in cc)
zip_at f (u ∷ xs) [] i x y a b = absurd (let z = b in cc)
zip_at f (u ∷ xs) (w ∷ ys) zero x y a b = let e : u ≡ x = cc in let d : w ≡ y = cc in ap₂ (λ p q. Some (f p q)) e d
zip_at f (u ∷ xs) (w ∷ ys) (suc i) x y a b = zip_at f xs ys i x y a b

pub zip_set : {X Y Z : Type 0} (f : X → Y → Z) (xs : List X) (ys : List Y) (k : ℕ) (x : X) (y : Y) → slice_get xs k ≡ Some x → zip2 f xs (set ys k y) ≡ set (zip2 f xs ys) k (f x y)
zip_set f [] ys k x y a = absurd (let z = a in cc)
zip_set f (u ∷ xs) [] k x y a = refl
zip_set f (u ∷ xs) (w ∷ ys) zero x y a = let e : u ≡ x = cc in ap (λ p. f p y ∷ zip2 f xs ys) e
zip_set f (u ∷ xs) (w ∷ ys) (suc k) x y a = ap (λ zs. f u w ∷ zs) (zip_set f xs ys k x y a)

pub zip_map : {X Y Z : Type 0} (f : X → Y → Z) (g : X → Y) (xs : List X) → zip2 f xs (map g xs) ≡ map (λ x. f x (g x)) xs
zip_map f g [] = refl
zip_map f g (x ∷ xs) = ap (λ zs. f x (g x) ∷ zs) (zip_map f g xs)

-- ---- counts
count_by-cons : (b : Bool) (bs : List Bool) → count_by (λ x. x) (b ∷ bs) ≡ cond b 1 0 + count_by (λ x. x) bs
count_by-cons b bs = sum_by-cons (λ x. cond x 1 0) b bs

pub count_set : (bs : List Bool) (k : ℕ) (b : Bool) → slice_get bs k ≡ Some false → count_by (λ x. x) (set bs k b) ≡ count_by (λ x. x) bs + cond b 1 0
count_set [] k b e = absurd (let z = e in cc)
count_set (x ∷ bs) zero b e =
    let is : x ≡ false = cc in
    let s = count_by-cons b bs in
    let t = count_by-cons x bs in
    let z : cond {A = ℕ} x 1 0 ≡ 0 = ap (λ y. cond {A = ℕ} y 1 0) is in
    omega (arith, s, t, z)
count_set (x ∷ bs) (suc k) b e =
    let h = count_set bs k b e in
    let s = count_by-cons x (set bs k b) in
    let t = count_by-cons x bs in
    omega (arith, h, s, t)

pub count_none : {X : Type 0} (f : X → Bool) (xs : List X) → ((x : X) → f x ≡ false) → count_by (λ b. b) (map f xs) ≡ 0
count_none f [] h = refl
count_none f (x ∷ xs) h =
    let s = count_by-cons (f x) (map f xs) in
    let z : cond {A = ℕ} (f x) 1 0 ≡ 0 = ap (λ y. cond {A = ℕ} y 1 0) (h x) in
    let k = count_none f xs h in
    omega (arith, s, z, k)
