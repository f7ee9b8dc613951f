-- The words and the lines of lists.
use Rattle.std.proofs.Common.{◌≡◌, ℕ, zero, suc, ◌<◌, ◌≤◌, ◌+◌, List, [], ◌∷◌, ◌++◌, map, length, get_or, take, drop, flat_map, refl, sym, ap, ◌∙◌, arith, append_assoc, append-nil, subst, take_all}
use Rattle.std.proofs.lemmas.Grind.{flat_map-append}
use Rattle.std.proofs.lemmas.List.{take_more}
use Rattle.pr_lang.specs.declared.tokens.Symbol.TheVariants.{Comma}
use Rattle.pr_lang.specs.Word.{Word, symbol}
use Rattle.pr_lang.specs.Tree.{Tree}
use Rattle.pr_lang.specs.Tree as tree
use Rattle.pr_lang.specs.Shape.{onto, comma_onto, listed, comma_listed}
use Rattle.pr_lang.specs.Printed.{spelling, spaced, written, lines}
use Rattle.pr_parse_print.specs.Put.{led, IsPut, comma_before}
use Rattle.pr_parse_print.proofs.Puts.{then_put}

module _ {X : Type 0} (f : X → Tree) where
  spelling-onto : (l : Tree) (xs : List X) → spelling (onto l (map f xs)) ≡ spelling l ++ flat_map (λ x. spelling (f x)) xs
  spelling-onto l [] = sym (append-nil (spelling l))
  spelling-onto l (x ∷ xs) = spelling-onto (tree.more l (f x)) xs ∙ append_assoc (spelling l) (spelling (f x)) (flat_map (λ y. spelling (f y)) xs)

  spelling-comma_onto : (l : Tree) (xs : List X) → spelling (comma_onto l (map f xs)) ≡ spelling l ++ flat_map (λ x. symbol Comma ∷ spelling (f x)) xs
  spelling-comma_onto l [] = sym (append-nil (spelling l))
  spelling-comma_onto l (x ∷ xs) = spelling-comma_onto (tree.also l (f x)) xs ∙ append_assoc (spelling l) (symbol Comma ∷ spelling (f x)) (flat_map (λ y. symbol Comma ∷ spelling (f y)) xs)

  pub spelling-listed : (xs : List X) → spelling (listed (map f xs)) ≡ flat_map (λ x. spelling (f x)) xs
  spelling-listed xs = spelling-onto tree.none xs

  -- the first, and each of the others after a comma
  pub spelling-comma_listed : (x : X) (xs : List X) → spelling (comma_listed (map f (x ∷ xs))) ≡ spelling (f x) ++ flat_map (λ y. symbol Comma ∷ spelling (f y)) xs
  spelling-comma_listed x xs = spelling-comma_onto (tree.more tree.none (f x)) xs

  lines-onto : (l : Tree) (xs : List X) → lines (onto l (map f xs)) ≡ lines l ++ flat_map (λ x. spaced (spelling (f x)) (10 ∷ [])) xs
  lines-onto l [] = sym (append-nil (lines l))
  lines-onto l (x ∷ xs) = lines-onto (tree.more l (f x)) xs ∙ append_assoc (lines l) (spaced (spelling (f x)) (10 ∷ [])) (flat_map (λ y. spaced (spelling (f y)) (10 ∷ [])) xs)

  pub lines-listed : (xs : List X) → lines (listed (map f xs)) ≡ flat_map (λ x. spaced (spelling (f x)) (10 ∷ [])) xs
  lines-listed xs = lines-onto tree.none xs

-- one more of a list
flat_map-more : {X Y : Type 0} (g : X → List Y) (xs : List X) (i : ℕ) (d : X) → i < length xs → flat_map g (take (i + 1) xs) ≡ flat_map g (take i xs) ++ g (get_or xs i d)
flat_map-more g xs i d h = ap (flat_map g) (take_more xs i d h) ∙ flat_map-append g (take i xs) (get_or xs i d ∷ []) ∙ ap (λ l. flat_map g (take i xs) ++ l) (append-nil (g (get_or xs i d)))

module _ {X : Type 0} (f : X → Tree) where
  listed-more : (xs : List X) (i : ℕ) (d : X) → i < length xs → spelling (listed (map f (take (i + 1) xs))) ≡ spelling (listed (map f (take i xs))) ++ spelling (f (get_or xs i d))
  listed-more xs i d h = spelling-listed f (take (i + 1) xs) ∙ flat_map-more (λ x. spelling (f x)) xs i d h ∙ ap (λ l. l ++ spelling (f (get_or xs i d))) (sym (spelling-listed f (take i xs)))

  lines-more : (xs : List X) (i : ℕ) (d : X) → i < length xs → lines (listed (map f (take (i + 1) xs))) ≡ lines (listed (map f (take i xs))) ++ spaced (spelling (f (get_or xs i d))) (10 ∷ [])
  lines-more xs i d h = lines-listed f (take (i + 1) xs) ∙ flat_map-more (λ x. spaced (spelling (f x)) (10 ∷ [])) xs i d h ∙ ap (λ l. l ++ spaced (spelling (f (get_or xs i d))) (10 ∷ [])) (sym (lines-listed f (take i xs)))

  comma_listed-more : (xs : List X) (i : ℕ) (d : X) → i < length xs → spelling (comma_listed (map f (take (suc i) xs))) ≡ spelling (comma_listed (map f (take i xs))) ++ (comma_before i ++ spelling (f (get_or xs i d)))
  comma_listed-more [] i d h = absurd (omega arith)
  comma_listed-more (x ∷ xs) zero d h = refl
  comma_listed-more (x ∷ xs) (suc i) d h =
      let g : X → List Word = λ y. symbol Comma ∷ spelling (f y) in
      let n : suc i ≡ i + 1 = omega arith in
      let r : flat_map g (take (suc i) xs) ≡ flat_map g (take i xs) ++ g (get_or xs i d) = ap (λ k. flat_map g (take k xs)) n ∙ flat_map-more g xs i d (omega arith) in
      spelling-comma_listed f x (take (suc i) xs)
      ∙ ap (λ l. spelling (f x) ++ l) r
      ∙ sym (append_assoc (spelling (f x)) (flat_map g (take i xs)) (g (get_or xs i d)))
      ∙ ap (λ l. l ++ g (get_or xs i d)) (sym (spelling-comma_listed f x (take i xs)))

  -- an element more in a text, a member more, and a line more
  pub element_put : {a b c e : List ℕ} (xs : List X) (i : ℕ) (x : X) → x ≡ get_or xs i x → i < length xs → IsPut a (spelling (comma_listed (map f (take i xs)))) b → IsPut b (comma_before i) c → IsPut c (spelling (f x)) e → IsPut a (spelling (comma_listed (map f (take (i + 1) xs)))) e
  element_put {a} {b} {c} {e} xs i x is h p q r =
      let n : suc i ≡ i + 1 = omega arith in
      let last : IsPut c (spelling (f (get_or xs i x))) e = subst (λ y. IsPut c (spelling (f y)) e) is r in
      subst (λ ws. IsPut a ws e) (sym (comma_listed-more xs i x h) ∙ ap (λ k. spelling (comma_listed (map f (take k xs)))) n) (then_put p (then_put q last))

  pub member_put : {a b c : List ℕ} (xs : List X) (i : ℕ) (x : X) → x ≡ get_or xs i x → i < length xs → IsPut a (spelling (listed (map f (take i xs)))) b → IsPut b (spelling (f x)) c → IsPut a (spelling (listed (map f (take (i + 1) xs)))) c
  member_put {a} {b} {c} xs i x is h p q =
      let last : IsPut b (spelling (f (get_or xs i x))) c = subst (λ y. IsPut b (spelling (f y)) c) is q in
      subst (λ ws. IsPut a ws c) (sym (listed-more xs i x h)) (then_put p last)

  pub line_more : (xs : List X) (i : ℕ) (x : X) (before after : List ℕ) → x ≡ get_or xs i x → i < length xs → before ≡ lines (listed (map f (take i xs))) → after ≡ before ++ spaced (spelling (f x)) (10 ∷ []) → after ≡ lines (listed (map f (take (i + 1) xs)))
  line_more xs i x before after is h p q = q ∙ ap (λ l. l ++ spaced (spelling (f x)) (10 ∷ [])) p ∙ ap (λ y. lines (listed (map f (take i xs))) ++ spaced (spelling (f y)) (10 ∷ [])) is ∙ sym (lines-more xs i x h)

  pub all_lines : (xs ys : List X) (i : ℕ) (text : List ℕ) → xs ≡ ys → length xs ≤ i → text ≡ lines (listed (map f (take i xs))) → text ≡ lines (listed (map f ys))
  all_lines xs ys i text e h p = p ∙ ap (λ l. lines (listed (map f l))) (take_all i xs h ∙ e)

spaced-led : (ws : List Word) → spaced ws (10 ∷ []) ≡ drop 1 (led ws) ++ 10 ∷ []
unfolding led
spaced-led [] = refl
spaced-led (w ∷ []) = ap (λ l. l ++ 10 ∷ []) (sym (append-nil (written w)))
spaced-led (w ∷ v ∷ ws) = ap (λ l. written w ++ 32 ∷ l) (spaced-led (v ∷ ws)) ∙ sym (append_assoc (written w) (32 ∷ drop 1 (led (v ∷ ws))) (10 ∷ []))

-- a line more in a text
pub line_put : (before now after line words : List ℕ) (ws : List Word) → IsPut [] ws line → words ≡ drop 1 line → now ≡ before ++ words → after ≡ now ++ 10 ∷ [] → after ≡ before ++ spaced ws (10 ∷ [])
line_put before now after line words ws p e f g =
    g ∙ ap (λ l. l ++ 10 ∷ []) (f ∙ ap (λ l. before ++ l) (e ∙ ap (drop 1) p.text))
    ∙ append_assoc before (drop 1 (led ws)) (10 ∷ [])
    ∙ ap (λ l. before ++ l) (sym (spaced-led ws))
