-- Names, and lines and columns byte by byte.
use mathlib.Core.Path.{fun_ext}
use Rattle.std.proofs.Common.{◌≡◌, ◌∙◌, ◌+◌, ◌-◌, ◌<◌, ◌≤◌, ℕ, zero, suc, Bool, true, false, List, [], ◌∷◌, ◌++◌, map, filter, take, fold, get_or, length, refl, sym, ap, ap₂, subst, inl, inr, arith, append_assoc}
use Rattle.std.specs.Prelude.{if◌then◌else◌}
use Rattle.std.specs.List.{range_with_len}
use Rattle.std.proofs.Math.ListN.{get_or-map}
use Rattle.std.proofs.lemmas.Bool.{cases_Bool, ne_eqb}
use Rattle.std.proofs.lemmas.List.{take_more, length-take}
use Rattle.std.proofs.lemmas.List.Sums.{count_by-le-length, count_by_more_no, count_by_more_yes, fold-append}
use Rattle.pr_lang.specs.declared.tokens.Token.{Token}
use Rattle.pr_lang.specs.Spelling.{is_line_feed}
use Rattle.pr_lang.specs.Tokens.{tokens_of}
use Rattle.pr_lens_text.specs.declared.places.Place.{Place}
use Rattle.pr_lens_text.specs.Places.{HasNoEnd, IsEndBefore, IsPlace}
use Rattle.pr_lens_origins.specs.declared.spots.Cursor.{Cursor}
use Rattle.pr_lens_origins.specs.declared.spots.Spot.{Spot}
use Rattle.pr_lens_origins.specs.Spots.{column_behind, cursor_at, cursor_behind, line_behind, name_spot, name_tokens, next_column, token_spot}

-- ---- one token more
pub names_step : (test : ℕ → Bool) (count at : ℕ) (before now whole : List ℕ) → at < count → now ≡ before ++ (if test at then at ∷ [] else [])
    → before ++ filter test (range_with_len at (count - at)) ≡ whole → now ++ filter test (range_with_len (at + 1) (count - (at + 1))) ≡ whole
names_step test count at before now whole less step rest =
    let left = range_with_len (at + 1) (count - (at + 1)) in
    let more : count - at ≡ suc (count - (at + 1)) = omega (arith, less) in
    let here : filter test (at ∷ left) ≡ (if test at then at ∷ [] else []) ++ filter test left = elim (cases_Bool (test at)) [
      | inl named ↦ rw named refl
      | inr other ↦ rw other refl
    ] in
    ap (λ l. l ++ filter test left) step
    ∙ (append_assoc before (if test at then at ∷ [] else []) (filter test left)
    ∙ (ap (λ l. before ++ l) (sym here) ∙ (ap (λ (n : ℕ). before ++ filter test (range_with_len at n)) (sym more) ∙ rest)))

-- ---- one byte more
line_more : (text : List ℕ) (at : ℕ) → at < length text → (b : Bool) → is_line_feed (get_or text at 0) ≡ b
    → line_behind (take (at + 1) text) ≡ if b then line_behind (take at text) + 1 else line_behind (take at text)
unfolding line_behind
line_more text at h true is = ap (λ (n : ℕ). n + 1) (count_by_more_yes is_line_feed text at 0 h is)
line_more text at h false is = ap (λ (n : ℕ). n + 1) (count_by_more_no is_line_feed text at 0 h is)

column_more : (text : List ℕ) (at : ℕ) → at < length text → column_behind (take (at + 1) text) ≡ next_column (column_behind (take at text)) (get_or text at 0)
unfolding column_behind
column_more text at h = ap (fold next_column 1) (take_more text at 0 h) ∙ fold-append next_column 1 (take at text) (get_or text at 0 ∷ [])

abbrev made : ℕ → ℕ → ℕ → Cursor
made offset line column = record { offset = offset; line = line; column = column }

pub cursor_more : (text : List ℕ) (at : ℕ) → at < length text → cursor_behind (cursor_at text at) (get_or text at 0) ≡ cursor_at text (at + 1)
cursor_more text at h =
    ap₂ (made (at + 1)) (sym (line_more text at h (is_line_feed (get_or text at 0)) refl)) (sym (column_more text at h))

pub cursor_on : (text : List ℕ) (at : ℕ) (cursor now : Cursor) (byte : ℕ) → at < length text → cursor ≡ cursor_at text at → byte ≡ get_or text at 0 → now ≡ cursor_behind cursor byte → now ≡ cursor_at text (at + 1)
cursor_on text at cursor now byte less is read step = step ∙ (ap₂ cursor_behind is read ∙ cursor_more text at less)

-- ---- both are small
line_small : (bytes : List ℕ) → line_behind bytes ≤ length bytes + 1
unfolding line_behind
line_small bytes = let few = count_by-le-length is_line_feed bytes in omega (arith, few)

next_small : (column byte : ℕ) → next_column column byte ≤ column + 1
next_small column byte = elim (cases_Bool (is_line_feed byte)) [
  | inl feed ↦ rw feed (omega arith)
  | inr other ↦ rw other (omega arith)
]

fold_small : (bytes : List ℕ) (column : ℕ) → fold next_column column bytes ≤ column + length bytes
fold_small [] column = omega arith
fold_small (byte ∷ bytes) column =
    let more = fold_small bytes (next_column column byte) in
    let one = next_small column byte in
    omega (arith, more, one)

column_small : (bytes : List ℕ) → column_behind bytes ≤ length bytes + 1
unfolding column_behind
column_small bytes = let small = fold_small bytes 1 in omega (arith, small)

pub lines_few : (text : List ℕ) (at : ℕ) → line_behind (take at text) ≤ length text + 1
lines_few text at = let small = line_small (take at text) in let part = length-take at text in omega (arith, small, part)

pub columns_few : (text : List ℕ) (at : ℕ) → column_behind (take at text) ≤ length text + 1
columns_few text at = let small = column_small (take at text) in let part = length-take at text in omega (arith, small, part)

-- ---- the places of names by their numbers
pub picked : (text : List ℕ) (tokens : List Token) (names numbers : List ℕ) (table spots : List Spot) (last : Spot) → tokens ≡ tokens_of text → names ≡ name_tokens tokens → table ≡ map (token_spot text tokens) names
    → last ≡ token_spot text tokens (length tokens) → spots ≡ map (λ n. get_or table n last) numbers → spots ≡ map (name_spot text) numbers
unfolding name_spot
picked text tokens names numbers table spots last are named listed behind all =
    let named_at : (n : ℕ) → get_or table n last ≡ token_spot text tokens (get_or (name_tokens tokens) n (length tokens)) = λ n.
    ap₂ (λ (t : List Spot) (s : Spot). get_or t n s) listed behind
    ∙ (get_or-map (token_spot text tokens) names n (length tokens) ∙ ap (λ (ns : List ℕ). token_spot text tokens (get_or ns n (length tokens))) named) in
    all
    ∙ (ap (λ (f : ℕ → Spot). map f numbers) (fun_ext named_at)
    ∙ ap (λ (ts : List Token). map (λ n. token_spot text ts (get_or (name_tokens ts) n (length ts))) numbers) are)

-- ---- the places that are told of other bytes
pub line_is : (text : List ℕ) (offset : ℕ) (place : Place) → IsPlace text offset place → line_behind (take offset text) ≡ place.line
unfolding line_behind
line_is text offset place is = sym is.line

module _ (text : List ℕ) (start : ℕ) (begins : IsEndBefore text start) where
  column_first : (n : ℕ) → n ≡ start → start ≤ length text → column_behind (take start text) ≡ 1
  unfolding column_behind
  column_first zero is within = ap (λ (k : ℕ). column_behind (take k text)) (sym is)
  column_first (suc n) is within = elim begins [
    | inl none ↦ ap (λ (k : ℕ). column_behind (take k text)) none
    | inr feed ↦ (
        let less : n < length text = omega (arith, is, within) in
        let last : start - 1 ≡ n = omega (arith, is) in
        let byte : get_or text n 0 ≡ 10 = ap (λ (k : ℕ). get_or text k 0) (sym last) ∙ feed in
        let whole : start ≡ n + 1 = omega (arith, is) in
        ap (λ (k : ℕ). column_behind (take k text)) whole ∙ (column_more text n less ∙ ap (next_column (column_behind (take n text))) byte))
  ]

  column_on : (k : ℕ) → start + k ≤ length text → HasNoEnd text start (start + k) → column_behind (take (start + k) text) ≡ k + 1
  column_on zero within none = ap (λ (n : ℕ). column_behind (take n text)) (omega arith) ∙ column_first start refl (omega (arith, within))
  column_on (suc k) within none =
      let at = start + k in
      let less : at < length text = omega (arith, within) in
      let more : start + suc k ≡ at + 1 = omega arith in
      let before : column_behind (take at text) ≡ k + 1 = column_on k (omega (arith, within)) (λ n least below. none n least (omega (arith, below))) in
      let other : is_line_feed (get_or text at 0) ≡ false = ne_eqb (get_or text at 0) 10 (none at (omega arith) (omega arith)) in
      ap (λ (n : ℕ). column_behind (take n text)) more ∙ (column_more text at less ∙ rw other (ap (λ (n : ℕ). n + 1) before ∙ omega arith))

pub column_is : (text : List ℕ) (offset : ℕ) (place : Place) → offset ≤ length text → IsPlace text offset place → column_behind (take offset text) ≡ place.column
column_is text offset place within is =
    let whole : is.start + (offset - is.start) ≡ offset = omega (arith, is.within) in
    ap (λ (n : ℕ). column_behind (take n text)) (sym whole)
    ∙ (column_on text is.start is.begins (offset - is.start) (omega (arith, whole, within)) (subst (HasNoEnd text is.start) (sym whole) is.none) ∙ sym is.column)
