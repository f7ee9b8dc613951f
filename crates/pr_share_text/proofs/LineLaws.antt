-- The lines of a text of marked lines.
use Rattle.std.proofs.Common.{◌≡◌, ℕ, zero, suc, ◌+◌, ◌%◌, ◌/◌, ◌<◌, ◌&&◌, not, eqb, ltb, Bool, true, false, cond, List, [], ◌∷◌, ◌++◌, map, refl, sym, ap, ap₂, ◌∙◌, arith, append_assoc, eq-eqb}
use Rattle.std.specs.List.{flat_map, list_all, join_with_byte}
use Rattle.std.specs.Fmt.{decimal, digits, digits_onto, digit_glyph}
use Rattle.std.proofs.lemmas.Bool.{eqb-true, ne_eqb}
use Rattle.std.proofs.lemmas.List.Concat.{flat_map-cons}
use Rattle.pr_base.specs.Rows.{row_line, written}
use Rattle.pr_samples.specs.Lines.{Lines, lines_of, with_byte, in_front}
use Rattle.pr_share_text.specs.Text.{mark, marked, begins_with, unmarked, lines_of_program}

-- ---- bytes without an LF
abbrev is_inner : ℕ → Bool
is_inner b = not (eqb b 10)

abbrev inner : List ℕ → Bool
inner bytes = list_all is_inner bytes

above_inner : (b : ℕ) → 10 < b → is_inner b ≡ true
above_inner b h = ap not (ne_eqb b 10 (λ e. absurd (omega arith)))

both : (a b c : Bool) → (a && b) ≡ true → (b ≡ true → c ≡ true) → (a && c) ≡ true
both true b c h f = f h
both false b c h f = absurd (let z = h in cc)

first_of_both : (a b : Bool) → (a && b) ≡ true → a ≡ true
first_of_both true b h = refl
first_of_both false b h = h

last_of_both : (a b : Bool) → (a && b) ≡ true → b ≡ true
last_of_both true b h = h
last_of_both false b h = absurd (let z = h in cc)

inner-cons : (b : ℕ) (bytes : List ℕ) → is_inner b ≡ true → inner bytes ≡ true → inner (b ∷ bytes) ≡ true
inner-cons b bytes h k = ap₂ (λ x y. x && y) h k

inner-append : (xs ys : List ℕ) → inner xs ≡ true → inner ys ≡ true → inner (xs ++ ys) ≡ true
inner-append [] ys h k = k
inner-append (x ∷ xs) ys h k = both (is_inner x) (inner xs) (inner (xs ++ ys)) h (λ r. inner-append xs ys r k)

inner_glyph : (d : ℕ) → is_inner (digit_glyph false d) ≡ true
inner_glyph d = by_test (ltb d 10)
  where
    by_test : (t : Bool) → is_inner (cond t (48 + d) (87 + d)) ≡ true
    by_test true = above_inner (48 + d) (omega arith)
    by_test false = above_inner (87 + d) (omega arith)

inner_digits : (k n : ℕ) (acc : List ℕ) → inner acc ≡ true → inner (digits_onto k 10 false n acc) ≡ true
inner_digits zero n acc h = h
inner_digits (suc k) n acc h =
    let last = digit_glyph false (n % 10) ∷ acc in
    let more : inner last ≡ true = inner-cons (digit_glyph false (n % 10)) acc (inner_glyph (n % 10)) h in
    either (eqb (n / 10) 0) last (digits_onto k 10 false (n / 10) last) more (inner_digits k (n / 10) last more)
  where
    either : (t : Bool) (xs ys : List ℕ) → inner xs ≡ true → inner ys ≡ true → inner (cond t xs ys) ≡ true
    either true xs ys a b = a
    either false xs ys a b = b

inner_decimal : (n : ℕ) → inner (decimal n) ≡ true
unfolding digits
inner_decimal n = inner_digits 64 n [] refl

inner_row : (row : List ℕ) → inner (join_with_byte 32 (map decimal row)) ≡ true
inner_row [] = refl
inner_row (n ∷ []) = inner_decimal n
inner_row (n ∷ m ∷ row) = inner-append (decimal n) (32 ∷ join_with_byte 32 (map decimal (m ∷ row))) (inner_decimal n) (inner-cons 32 (join_with_byte 32 (map decimal (m ∷ row))) refl (inner_row (m ∷ row)))

-- ---- one line
line_and_more : (body rest : List ℕ) → inner body ≡ true → lines_of (body ++ 10 ∷ rest) ≡ record { whole = body ∷ (lines_of rest).whole; last = (lines_of rest).last }
unfolding lines_of
line_and_more [] rest h = refl
line_and_more (b ∷ body) rest h =
    ap (with_byte b) (line_and_more body rest (last_of_both (is_inner b) (inner body) h))
    ∙ ap (λ t. cond t (record { whole = [] ∷ body ∷ (lines_of rest).whole; last = (lines_of rest).last }) (in_front b (body ∷ (lines_of rest).whole) (lines_of rest).last)) (not_lf (eqb b 10) (first_of_both (is_inner b) (inner body) h))
  where
    not_lf : (t : Bool) → not t ≡ true → t ≡ false
    not_lf true e = sym e
    not_lf false e = refl

shown_line : (k : ℕ) (body rest : List ℕ) → inner body ≡ true → lines_of_program k (body ++ 10 ∷ rest) ≡ unmarked k body ++ lines_of_program k rest
shown_line k body rest h = ap (λ (l : Lines). flat_map (unmarked k) l.whole) (line_and_more body rest h) ∙ flat_map-cons (unmarked k) body (lines_of rest).whole

-- what program k is shown of the lines of program j
abbrev pub shown : ℕ → ℕ → List (List ℕ) → List ℕ
shown k j rows = cond (eqb k j) (written rows) []

unmarked_row : (k j : ℕ) (bytes : List ℕ) (t : Bool) → eqb (48 + k) (48 + j) ≡ t → unmarked k (mark j ++ bytes) ≡ cond t (bytes ++ 10 ∷ []) []
unmarked_row k j bytes t e = ap (λ (x : Bool). cond (x && true) (bytes ++ 10 ∷ []) []) e ∙ by_test t
  where
    by_test : (x : Bool) → cond (x && true) (bytes ++ 10 ∷ []) [] ≡ cond x (bytes ++ 10 ∷ []) []
    by_test true = refl
    by_test false = refl

same_test : (k j : ℕ) (t : Bool) → eqb k j ≡ t → eqb (48 + k) (48 + j) ≡ t
same_test k j true e = let h = eqb-true k j e in eq-eqb (48 + k) (48 + j) (omega arith)
same_test k j false e = ne_eqb (48 + k) (48 + j) (λ f. let g : k ≡ j = omega arith in let z = eq-eqb k j g in absurd (cc))

row_shown : (k j : ℕ) (row rest : List ℕ) → lines_of_program k ((mark j ++ row_line row) ++ rest) ≡ cond (eqb k j) (row_line row) [] ++ lines_of_program k rest
row_shown k j row rest =
    let bytes = join_with_byte 32 (map decimal row) in
    ap (λ xs. lines_of_program k (mark j ++ xs)) (append_assoc bytes (10 ∷ []) rest)
    ∙ (shown_line k (mark j ++ bytes) rest (inner-cons (48 + j) (58 ∷ 32 ∷ bytes) (above_inner (48 + j) (omega arith)) (inner_row row))
    ∙ ap (λ xs. xs ++ lines_of_program k rest) (unmarked_row k j bytes (eqb k j) (same_test k j (eqb k j) refl)))

pub marked_shown : (k j : ℕ) (rows : List (List ℕ)) (rest : List ℕ) → lines_of_program k (marked j rows ++ rest) ≡ shown k j rows ++ lines_of_program k rest
marked_shown k j [] rest = by_test (eqb k j)
  where
    by_test : (t : Bool) → lines_of_program k rest ≡ cond {A = List ℕ} t [] [] ++ lines_of_program k rest
    by_test true = refl
    by_test false = refl
marked_shown k j (row ∷ rows) rest =
    ap (λ xs. lines_of_program k (xs ++ rest)) (flat_map-cons (λ (r : List ℕ). mark j ++ row_line r) row rows)
    ∙ (ap (lines_of_program k) (append_assoc (mark j ++ row_line row) (marked j rows) rest)
    ∙ (row_shown k j row (marked j rows ++ rest)
    ∙ (ap (λ xs. cond (eqb k j) (row_line row) [] ++ xs) (marked_shown k j rows rest)
    ∙ joined (eqb k j))))
  where
    joined : (t : Bool) → cond t (row_line row) [] ++ (cond t (written rows) [] ++ lines_of_program k rest) ≡ cond t (written (row ∷ rows)) [] ++ lines_of_program k rest
    joined true = sym (append_assoc (row_line row) (written rows) (lines_of_program k rest)) ∙ ap (λ xs. xs ++ lines_of_program k rest) (sym (flat_map-cons row_line row rows))
    joined false = refl
