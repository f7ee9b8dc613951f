-- What is made of a list from its last element down to its first.
use Rattle.std.proofs.Common.{◌≡◌, ◌++◌, ◌+◌, ◌<◌, ◌≤◌, ◌∙◌, ℕ, List, [], ◌∷◌, length, take, get_or, sym, ap, arith}
use Rattle.std.proofs.lemmas.List.{length-take-le, take_all, take_more}

-- F of a list goes on with F of its front from what G makes of its last element
pub record Descends {X M : Type 0} (F : List X → M → M) (G : ℕ → X → M → M) : Type 0 where
  pub none : (m : M) → F [] m ≡ m
  pub last : (xs : List X) (x : X) (m : M) → F (xs ++ x ∷ []) m ≡ F xs (G (length xs) x m)

pub down_more : {X M : Type 0} (F : List X → M → M) (G : ℕ → X → M → M) → Descends F G → (xs : List X) (i j : ℕ) (x d : X) (m whole : M) → i ≡ j + 1 → i ≤ length xs → x ≡ get_or xs j d
    → F (take i xs) m ≡ whole → F (take j xs) (G j x m) ≡ whole
down_more F G w xs i j x d m whole e le is h =
    let lt : j < length xs = omega (arith, e, le) in
    let short : j ≤ length xs = omega (arith, lt) in
    ap (λ n. F (take j xs) (G n x m)) (sym (length-take-le j xs short))
    ∙ sym (w.last (take j xs) x m)
    ∙ ap (λ z. F (take j xs ++ z ∷ []) m) is
    ∙ ap (λ z. F z m) (sym (take_more xs j d lt))
    ∙ ap (λ n. F (take n xs) m) (sym e) ∙ h

pub down_begun : {X M : Type 0} (F : List X → M → M) (xs : List X) (i : ℕ) (m : M) → i ≡ length xs → F (take i xs) m ≡ F xs m
down_begun F xs i m e = ap (λ z. F z m) (take_all i xs (let l : length xs ≤ i = omega (arith, e) in l))

pub down_done : {X M : Type 0} (F : List X → M → M) (G : ℕ → X → M → M) → Descends F G → (xs : List X) (i : ℕ) (m whole : M) → i ≤ 0 → F (take i xs) m ≡ whole → m ≡ whole
down_done F G w xs i m whole le h =
    sym (w.none m) ∙ ap (λ n. F (take n xs) m) (let e : 0 ≡ i = omega (arith, le) in e) ∙ h
