-- Pieces with commas between them.
use Rattle.std.proofs.Common.{◌≡◌, ◌∙◌, ◌+◌, ◌<◌, ◌≤◌, ◌++◌, ◌∷◌, [], ℕ, Bool, true, false, List, length, get_or, drop, refl, sym, ap, append_assoc}
use Rattle.std.specs.List.{flat_map}
use Rattle.std.proofs.lemmas.List.{append-nil, at_drop_more, drop_all}
use Rattle.pr_lens_why.specs.Syntax.{comma_before, is_first_behind, joined}

not_first : (ps : List (List ℕ)) → is_first_behind false ps ≡ false
unfolding is_first_behind
not_first [] = refl
not_first (p ∷ ps) = refl

joined_append : (first : Bool) (ps qs : List (List ℕ)) → joined first (ps ++ qs) ≡ joined first ps ++ joined (is_first_behind first ps) qs
unfolding joined is_first_behind
joined_append first [] qs = refl
joined_append first (p ∷ ps) qs =
    ap (λ (text : List ℕ). (comma_before first ++ p) ++ text) (joined_append false ps qs)
    ∙ (ap (λ (b : Bool). (comma_before first ++ p) ++ (joined false ps ++ joined b qs)) (not_first ps) ∙ sym (append_assoc (comma_before first ++ p) (joined false ps) (joined false qs)))

first_append : (first : Bool) (ps qs : List (List ℕ)) → is_first_behind first (ps ++ qs) ≡ is_first_behind (is_first_behind first ps) qs
unfolding is_first_behind
first_append first [] qs = refl
first_append first (p ∷ ps) qs = sym (not_first qs)

-- one part after another
pub next_joined : (t t1 t2 : List ℕ) (first f1 : Bool) (ps qs : List (List ℕ)) → t1 ≡ t ++ joined first ps → f1 ≡ is_first_behind first ps → t2 ≡ t1 ++ joined f1 qs → t2 ≡ t ++ joined first (ps ++ qs)
next_joined t t1 t2 first f1 ps qs h1 e1 h2 =
    h2
    ∙ (ap (λ (b : Bool). t1 ++ joined b qs) e1
    ∙ (ap (λ (text : List ℕ). text ++ joined (is_first_behind first ps) qs) h1
    ∙ (append_assoc t (joined first ps) (joined (is_first_behind first ps) qs) ∙ ap (λ (text : List ℕ). t ++ text) (sym (joined_append first ps qs)))))

pub next_first : (first f1 f2 : Bool) (ps qs : List (List ℕ)) → f1 ≡ is_first_behind first ps → f2 ≡ is_first_behind f1 qs → f2 ≡ is_first_behind first (ps ++ qs)
next_first first f1 f2 ps qs e1 e2 = e2 ∙ (ap (λ (b : Bool). is_first_behind b qs) e1 ∙ sym (first_append first ps qs))

pub five_joined : (t : List ℕ) (ps1 ps2 ps3 ps4 ps5 : List (List ℕ)) (t1 t2 t3 t4 t5 : List ℕ) (f1 f2 f3 f4 : Bool) → t1 ≡ t ++ joined true ps1 → f1 ≡ is_first_behind true ps1 → t2 ≡ t1 ++ joined f1 ps2 → f2 ≡ is_first_behind f1 ps2
    → t3 ≡ t2 ++ joined f2 ps3 → f3 ≡ is_first_behind f2 ps3 → t4 ≡ t3 ++ joined f3 ps4 → f4 ≡ is_first_behind f3 ps4 → t5 ≡ t4 ++ joined f4 ps5 → t5 ≡ t ++ joined true (ps1 ++ ps2 ++ ps3 ++ ps4 ++ ps5)
five_joined t ps1 ps2 ps3 ps4 ps5 t1 t2 t3 t4 t5 f1 f2 f3 f4 h1 e1 h2 e2 h3 e3 h4 e4 h5 =
    let first2 = next_first true f1 f2 ps1 ps2 e1 e2 in
    let first3 = next_first true f2 f3 (ps1 ++ ps2) ps3 first2 e3 in
    let first4 = next_first true f3 f4 (ps1 ++ ps2 ++ ps3) ps4 first3 e4 in
    let text2 = next_joined t t1 t2 true f1 ps1 ps2 h1 e1 h2 in
    let text3 = next_joined t t2 t3 true f2 (ps1 ++ ps2) ps3 text2 first2 h3 in
    let text4 = next_joined t t3 t4 true f3 (ps1 ++ ps2 ++ ps3) ps4 text3 first3 h4 in
    next_joined t t4 t5 true f4 (ps1 ++ ps2 ++ ps3 ++ ps4) ps5 text4 first4 h5

-- ---- the pieces of a list, element by element
module _ {X : Type 0} (piece : X → List (List ℕ)) (xs : List X) where
  pieces_more : (i : ℕ) (d : X) → i < length xs → flat_map piece (drop i xs) ≡ piece (get_or xs i d) ++ flat_map piece (drop (i + 1) xs)
  pieces_more i d less = at_drop_more (flat_map piece) xs i d less

  pub pieces_text : (i : ℕ) (d : X) (first next : Bool) (now new whole : List ℕ) → i < length xs → new ≡ now ++ joined first (piece (get_or xs i d)) → next ≡ is_first_behind first (piece (get_or xs i d))
      → now ++ joined first (flat_map piece (drop i xs)) ≡ whole → new ++ joined next (flat_map piece (drop (i + 1) xs)) ≡ whole
  pieces_text i d first next now new whole less text is_next rest =
      next_joined now new (new ++ joined next (flat_map piece (drop (i + 1) xs))) first next (piece (get_or xs i d)) (flat_map piece (drop (i + 1) xs)) text is_next refl
      ∙ (ap (λ (ps : List (List ℕ)). now ++ joined first ps) (sym (pieces_more i d less)) ∙ rest)

  pub pieces_first : (i : ℕ) (d : X) (first next whole : Bool) → i < length xs → next ≡ is_first_behind first (piece (get_or xs i d))
      → is_first_behind first (flat_map piece (drop i xs)) ≡ whole → is_first_behind next (flat_map piece (drop (i + 1) xs)) ≡ whole
  pieces_first i d first next whole less is_next rest =
      ap (λ (b : Bool). is_first_behind b (flat_map piece (drop (i + 1) xs))) is_next
      ∙ (sym (first_append first (piece (get_or xs i d)) (flat_map piece (drop (i + 1) xs))) ∙ (ap (λ (ps : List (List ℕ)). is_first_behind first ps) (sym (pieces_more i d less)) ∙ rest))

  pub pieces_all : (i : ℕ) (first : Bool) (now whole : List ℕ) → length xs ≤ i → now ++ joined first (flat_map piece (drop i xs)) ≡ whole → now ≡ whole
  unfolding joined
  pieces_all i first now whole past rest =
      sym (append-nil now) ∙ (ap (λ (ys : List X). now ++ joined first (flat_map piece ys)) (sym (drop_all i xs past)) ∙ rest)

  pub firsts_all : (i : ℕ) (first whole : Bool) → length xs ≤ i → is_first_behind first (flat_map piece (drop i xs)) ≡ whole → first ≡ whole
  unfolding is_first_behind
  firsts_all i first whole past rest = ap (λ (ys : List X). is_first_behind first (flat_map piece ys)) (sym (drop_all i xs past)) ∙ rest
