-- The line and the column of a byte.
use Rattle.std.proofs.Common.{◌≡◌, ◌∙◌, ◌+◌, ◌-◌, ◌<◌, ◌≤◌, ◌++◌, ◌∷◌, [], ℕ, zero, suc, fold, List, codes, decimal, length, get_or, take, inl, inr, refl, sym, ap, arith}
use Rattle.std.proofs.lemmas.Bool.Decides.{nat_tests}
use Rattle.std.proofs.lemmas.Grind.{fold-append}
use Rattle.std.proofs.lemmas.List.{take_more}
use Rattle.pr_lens_text.specs.declared.places.Place.{Place}
use Rattle.pr_lens_text.specs.Places.{HasNoEnd, IsEndBefore, IsPlace}
use Rattle.pr_lang.specs.declared.tokens.Token.{Token}
use Rattle.pr_lens_source.specs.Tokens.{start_of}
use Rattle.pr_lens_names.specs.Pieces.{column_behind, column_of, line_of, place_text}
use Rattle.pr_lens_text.proofs.PutLemmas.{four_put}

module _ (text : List ℕ) where
  -- one byte more
  more : (k : ℕ) → k < length text → column_of text (k + 1) ≡ column_behind (column_of text k) (get_or text k 0)
  unfolding column_of
  more k less = ap (λ (bytes : List ℕ). fold column_behind 1 bytes) (take_more text k 0 less) ∙ fold-append column_behind 1 (take k text) (get_or text k 0 ∷ [])

  line_begins : (start : ℕ) → start ≤ length text → IsEndBefore text start → column_of text start ≡ 1
  unfolding column_of
  line_begins zero within begins = refl
  line_begins (suc k) within (inl none) = absurd (omega arith)
  line_begins (suc k) within (inr feed) =
      let here : get_or text k 0 ≡ 10 = (let same : suc k - 1 ≡ k = omega arith in ap (λ (j : ℕ). get_or text j 0) (sym same) ∙ feed) in
      let next : suc k ≡ k + 1 = omega arith in
      ap (λ (j : ℕ). column_of text j) next ∙ (more k (omega arith) ∙ ap (λ (byte : ℕ). column_behind (column_of text k) byte) here)

  no_feed : (byte column : ℕ) → (byte ≡ 10 → ⊥) → column_behind column byte ≡ column + 1
  no_feed byte column not = grind (arith, nat_tests)

  columns : (start n : ℕ) → start + n ≤ length text → IsEndBefore text start → HasNoEnd text start (start + n) → column_of text (start + n) ≡ n + 1
  columns start zero within begins none = let same : start + 0 ≡ start = omega arith in ap (λ (k : ℕ). column_of text k) same ∙ (line_begins start (omega arith) begins ∙ omega arith)
  columns start (suc n) within begins none =
      let next : start + suc n ≡ start + n + 1 = omega arith in
      let before = columns start n (omega arith) begins (λ k from to. none k from (omega arith)) in
      ap (λ (k : ℕ). column_of text k) next
      ∙ (more (start + n) (omega arith)
      ∙ (no_feed (get_or text (start + n) 0) (column_of text (start + n)) (none (start + n) (omega arith) (omega arith)) ∙ omega (arith, before)))

  pub line_is : (offset : ℕ) (place : Place) → IsPlace text offset place → place.line ≡ line_of text offset
  unfolding line_of
  line_is offset place is = is.line

  pub column_is : (offset : ℕ) (place : Place) → offset ≤ length text → IsPlace text offset place → place.column ≡ column_of text offset
  column_is offset place within is =
      let same : is.start + (offset - is.start) ≡ offset = omega (arith, is.within) in
      let at = columns is.start (offset - is.start) (omega (arith, is.within, within)) is.begins (λ k from to. is.none k from (omega (arith, to, is.within))) in
      omega (arith, is.column, at, ap (λ (k : ℕ). column_of text k) same)

pub place_put : (text : List ℕ) (tokens : List Token) (token start : ℕ) (place : Place) (old : List ℕ) {t1 t2 : List ℕ} → start ≡ start_of text tokens token → start ≤ length text → IsPlace text start place
    → t1 ≡ old ++ codes "line " ++ decimal place.line → t2 ≡ t1 ++ codes " column " ++ decimal place.column → t2 ≡ old ++ place_text text tokens token
unfolding place_text
place_put text tokens token start place old is within is_place h1 h2 =
    four_put old (codes "line ") (decimal place.line) (codes " column ") (decimal place.column) refl h1 refl h2
    ∙ (ap (λ (n : ℕ). old ++ (codes "line " ++ decimal n ++ codes " column " ++ decimal place.column)) (line_is text start place is_place)
    ∙ (ap (λ (n : ℕ). old ++ (codes "line " ++ decimal (line_of text start) ++ codes " column " ++ decimal n)) (column_is text start place within is_place)
    ∙ ap (λ (n : ℕ). old ++ (codes "line " ++ decimal (line_of text n) ++ codes " column " ++ decimal (column_of text n))) is))
