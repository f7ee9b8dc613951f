-- Lists that are made of what each element of another list gives, one after the other.
use Rattle.std.proofs.Common.{◌≡◌, ◌++◌, ◌+◌, ◌<◌, ◌≤◌, ◌∙◌, ℕ, suc, List, [], ◌∷◌, length, drop, get_or, sym, ap, arith, append_assoc}
use Rattle.std.proofs.lemmas.List.{at_drop_all, at_drop_more, append-nil}

-- F of a list from a place on is what G gives of each of its elements
pub record Walks {X Y : Type 0} (F : ℕ → List X → List Y) (G : ℕ → X → List Y) : Type 0 where
  pub none : (i : ℕ) → F i [] ≡ []
  pub more : (i : ℕ) (x : X) (xs : List X) → F i (x ∷ xs) ≡ G i x ++ F (suc i) xs

pub walk_more : {X Y : Type 0} (F : ℕ → List X → List Y) (G : ℕ → X → List Y) → Walks F G → (front whole : List Y) (xs : List X) (i : ℕ) (x d : X) → i < length xs → x ≡ get_or xs i d
    → front ++ F i (drop i xs) ≡ whole → (front ++ G i x) ++ F (i + 1) (drop (i + 1) xs) ≡ whole
walk_more F G w front whole xs i x d lt is h =
    append_assoc front (G i x) (F (i + 1) (drop (i + 1) xs))
    ∙ ap (λ n. front ++ (G i x ++ F n (drop (i + 1) xs))) (let e : i + 1 ≡ suc i = omega arith in e)
    ∙ ap (λ z. front ++ z) (sym (w.more i x (drop (i + 1) xs)))
    ∙ ap (λ z. front ++ F i (z ∷ drop (i + 1) xs)) is
    ∙ sym (at_drop_more (λ z. front ++ F i z) xs i d lt) ∙ h

pub walk_done : {X Y : Type 0} (F : ℕ → List X → List Y) (G : ℕ → X → List Y) → Walks F G → (front whole : List Y) (xs : List X) (i : ℕ) → length xs ≤ i
    → front ++ F i (drop i xs) ≡ whole → front ≡ whole
walk_done F G w front whole xs i le h =
    sym (append-nil front) ∙ ap (λ z. front ++ z) (sym (w.none i)) ∙ sym (at_drop_all (λ z. front ++ F i z) xs i le) ∙ h
