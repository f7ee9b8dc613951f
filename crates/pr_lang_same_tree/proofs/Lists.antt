-- Lists that are one list of trees.
use Rattle.std.proofs.Common.{◌≡◌, ◌∙◌, List, [], ◌∷◌, ◌++◌, map, refl, sym, ap, ap₂, append_assoc, append-nil}
use Rattle.pr_lang.specs.Tree.{Tree}
use Rattle.pr_lang.specs.Tree as tree
use Rattle.pr_lang.specs.Shape.{onto, comma_onto, listed, comma_listed}

-- the trees of which a list is made
abbrev trees_in : Tree → List Tree
trees_in (tree.more l t) = trees_in l ++ t ∷ []
trees_in (tree.also l t) = trees_in l ++ t ∷ []
trees_in _ = []

trees-onto : (l : Tree) (ts : List Tree) → trees_in (onto l ts) ≡ trees_in l ++ ts
trees-onto l [] = sym (append-nil (trees_in l))
trees-onto l (t ∷ ts) = trees-onto (tree.more l t) ts ∙ append_assoc (trees_in l) (t ∷ []) ts

trees-comma_onto : (l : Tree) (ts : List Tree) → trees_in (comma_onto l ts) ≡ trees_in l ++ ts
trees-comma_onto l [] = sym (append-nil (trees_in l))
trees-comma_onto l (t ∷ ts) = trees-comma_onto (tree.also l t) ts ∙ append_assoc (trees_in l) (t ∷ []) ts

trees-comma_listed : (ts : List Tree) → trees_in (comma_listed ts) ≡ ts
trees-comma_listed [] = refl
trees-comma_listed (t ∷ ts) = trees-comma_onto (tree.more tree.none t) ts

-- one list is made of one row of trees
pub one-listed : (ts us : List Tree) → listed ts ≡ listed us → ts ≡ us
one-listed ts us same = sym (trees-onto tree.none ts) ∙ (ap trees_in same ∙ trees-onto tree.none us)

pub one-comma_listed : (ts us : List Tree) → comma_listed ts ≡ comma_listed us → ts ≡ us
one-comma_listed ts us same = sym (trees-comma_listed ts) ∙ (ap trees_in same ∙ trees-comma_listed us)

-- what is the same of any two with one tree is the same, member by member, of lists with the same trees
pub each-alike : {A X : Type 0} (shape : A → Tree) (f : A → X) (xs ys : List A) → ((x y : A) → shape x ≡ shape y → f x ≡ f y) → map shape xs ≡ map shape ys → map f xs ≡ map f ys
each-alike shape f [] [] alike same = refl
each-alike shape f [] (y ∷ ys) alike same = absurd cc
each-alike shape f (x ∷ xs) [] alike same = absurd cc
each-alike shape f (x ∷ xs) (y ∷ ys) alike same =
    let here : shape x ≡ shape y = cc in
    let more : map shape xs ≡ map shape ys = cc in
    ap₂ (λ a rest. a ∷ rest) (alike x y here) (each-alike shape f xs ys alike more)

-- so it is where what is the same of all is known of the first alone, and stands beside them
pub each-proved : {A X : Type 0} (shape : A → Tree) (f : A → X) (zs : List ((x : A) × ((y : A) → shape x ≡ shape y → f x ≡ f y))) (ys : List A) → map shape (map (λ z. z.0) zs) ≡ map shape ys → map f (map (λ z. z.0) zs) ≡ map f ys
each-proved shape f [] [] same = refl
each-proved shape f [] (y ∷ ys) same = absurd cc
each-proved shape f (z ∷ zs) [] same = absurd cc
each-proved shape f (z ∷ zs) (y ∷ ys) same =
    let here : shape z.0 ≡ shape y = cc in
    let more : map shape (map (λ z. z.0) zs) ≡ map shape ys = cc in
    ap₂ (λ a rest. a ∷ rest) (z.1 y here) (each-proved shape f zs ys more)
