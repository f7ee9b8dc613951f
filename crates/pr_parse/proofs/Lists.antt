-- Lists of trees, one tree more.
use Rattle.std.proofs.Common.{◌≡◌, ◌<◌, List, [], ◌∷◌, ◌++◌, map, length, refl, ap, ◌∙◌, arith}
use Rattle.pr_lang.specs.Tree.{Tree}
use Rattle.pr_lang.specs.Tree as tree
use Rattle.pr_lang.specs.Shape.{onto, comma_onto, listed, comma_listed}

onto-map : {X : Type 0} (f : X → Tree) (l : Tree) (xs : List X) (x : X) → onto l (map f (xs ++ x ∷ [])) ≡ tree.more (onto l (map f xs)) (f x)
onto-map f l [] x = refl
onto-map f l (y ∷ ys) x = onto-map f (tree.more l (f y)) ys x

comma_onto-map : {X : Type 0} (f : X → Tree) (l : Tree) (xs : List X) (x : X) → comma_onto l (map f (xs ++ x ∷ [])) ≡ tree.also (comma_onto l (map f xs)) (f x)
comma_onto-map f l [] x = refl
comma_onto-map f l (y ∷ ys) x = comma_onto-map f (tree.also l (f y)) ys x

pub listed-more : {X : Type 0} (f : X → Tree) (xs ys : List X) (x : X) → ys ≡ xs ++ x ∷ [] → listed (map f ys) ≡ tree.more (listed (map f xs)) (f x)
listed-more f xs ys x e = ap (λ l. listed (map f l)) e ∙ onto-map f tree.none xs x

comma_step : {X : Type 0} (f : X → Tree) (xs : List X) (x : X) → 0 < length xs → comma_listed (map f (xs ++ x ∷ [])) ≡ tree.also (comma_listed (map f xs)) (f x)
comma_step f [] x h = absurd (omega arith)
comma_step f (y ∷ ys) x h = comma_onto-map f (tree.more tree.none (f y)) ys x

pub comma_listed-more : {X : Type 0} (f : X → Tree) (xs ys : List X) (x : X) → 0 < length xs → ys ≡ xs ++ x ∷ [] → comma_listed (map f ys) ≡ tree.also (comma_listed (map f xs)) (f x)
comma_listed-more f xs ys x h e = ap (λ l. comma_listed (map f l)) e ∙ comma_step f xs x h
