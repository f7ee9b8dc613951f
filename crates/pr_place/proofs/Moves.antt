-- A fact of values is one of equal values.
use Rattle.std.proofs.Common.{◌≡◌, ◌<◌, ◌+◌, ◌-◌, ◌∙◌, ℕ, suc, List, [], ◌∷◌, ◌++◌, length, get_or, take, append_assoc, sym, ap, subst, arith}
use Rattle.std.specs.List.{All, range_with_len}
use Rattle.std.proofs.lemmas.List.{get_or_default}
use Rattle.std.proofs.Math.Seq.{take-append_seam}

pub moved2 : {A B : Type 0} (Q : A → B → Type 0) (a x : A) (b y : B) → x ≡ a → y ≡ b → Q a b → Q x y
moved2 Q a x b y p q h = subst (λ u. Q u y) (sym p) (subst (λ u. Q a u) (sym q) h)

pub moved3 : {A B C : Type 0} (Q : A → B → C → Type 0) (a x : A) (b y : B) (c z : C) → x ≡ a → y ≡ b → z ≡ c → Q a b c → Q x y z
moved3 Q a x b y c z p q r h = subst (λ u. Q u y z) (sym p) (moved2 (Q a) b y c z q r h)

-- numbers that are all below a bound
pub below_moved : (xs ys : List ℕ) (m n : ℕ) → ys ≡ xs → n ≡ m → All (λ x. x < m) xs → All (λ x. x < n) ys
below_moved xs ys m n p q h = subst (λ (zs : List ℕ). All (λ x. x < n) zs) (sym p) (subst (λ (k : ℕ). All (λ x. x < k) xs) (sym q) h)

-- a list in a list of lists
pub list_at : (lists : List (List ℕ)) (g : ℕ) (x : List ℕ) → g < length lists → x ≡ get_or lists g x → x ≡ get_or lists g []
list_at lists g x l e = e ∙ get_or_default lists g x [] l

-- the whole of a Vec that was written as a slice
pub whole_slice : {X : Type 0} (xs new : List X) (n : ℕ) → n ≡ length new → take n (new ++ xs) ≡ new
whole_slice xs new n e = ap (λ (k : ℕ). take k (new ++ xs)) e ∙ take-append_seam new xs

-- one more number of a range
pub range_on : (xs ys old : List ℕ) (a i n : ℕ) → i < n → ys ≡ xs ++ (a + i) ∷ [] → xs ++ range_with_len (a + i) (n - i) ≡ old → ys ++ range_with_len (a + (i + 1)) (n - (i + 1)) ≡ old
range_on xs ys old a i n l e h =
    let m : n - i ≡ suc (n - (i + 1)) = omega arith in
    let b : a + i + 1 ≡ a + (i + 1) = omega arith in
    let r : range_with_len (a + i) (n - i) ≡ (a + i) ∷ range_with_len (a + (i + 1)) (n - (i + 1)) =
    ap (range_with_len (a + i)) m ∙ ap (λ (k : ℕ). (a + i) ∷ range_with_len k (n - (i + 1))) b in
    rw e (rw append_assoc (ap (λ (zs : List ℕ). xs ++ zs) (sym r) ∙ h))
