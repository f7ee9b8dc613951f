-- The words of a line, and the lines of a text, by the places of their ends.
use Rattle.std.proofs.Common.{◌≡◌, ℕ, suc, ◌+◌, ◌<◌, ◌≤◌, ◌==◌, ltb, cond, not, Bool, true, false, List, [], ◌∷◌, ◌++◌, ◌&&◌, length, take, drop, Option, Some, None, unwrap_or, IsSome, refl, sym, ap, ap₂, ◌∙◌, subst, arith, true≢false}
use Rattle.std.specs.List.{position, position_or_len}
use Rattle.std.proofs.lemmas.Bool.{eqb-true, eq-eqb}
use Rattle.pr_samples.specs.Lines.{Lines, lines_of, is_blank, with_letter, begins_apart, words_of, without_return, is_empty}

-- ---- places
pub position_or_len-le : (p : ℕ → Bool) (xs : List ℕ) → position_or_len p xs ≤ length xs
position_or_len-le p [] = omega arith
position_or_len-le p (x ∷ xs) = by_test (p x) (position_or_len-le p xs)
  where
    by_test : (t : Bool) → position_or_len p xs ≤ length xs → cond (not t) (1 + position_or_len p xs) 0 ≤ suc (length xs)
    by_test true h = omega arith
    by_test false h = omega arith

pub place_or_len : (p : ℕ → Bool) (xs : List ℕ) → unwrap_or (position p xs) (length xs) ≡ position_or_len p xs
place_or_len p xs = by_test (ltb (position_or_len p xs) (length xs)) refl
  where
    by_test : (t : Bool) → ltb (position_or_len p xs) (length xs) ≡ t → unwrap_or (cond t (Some (position_or_len p xs)) None) (length xs) ≡ position_or_len p xs
    by_test true e = refl
    by_test false e = let h = position_or_len-le p xs in grind arith

-- ---- words
words_of-blank : (b : ℕ) (bytes : List ℕ) → is_blank b ≡ true → words_of (b ∷ bytes) ≡ words_of bytes
unfolding words_of
words_of-blank b bytes e = rw e refl

words_of-letter : (b : ℕ) (bytes : List ℕ) → is_blank b ≡ false → words_of (b ∷ bytes) ≡ with_letter b (begins_apart bytes) (words_of bytes)
unfolding words_of
words_of-letter b bytes e = rw e refl

words_none : words_of [] ≡ []
unfolding words_of
words_none = refl

-- the number of letters before a blank
abbrev pub letters : List ℕ → ℕ
letters bytes = position_or_len is_blank bytes

-- the number of blanks before a letter
abbrev pub blanks : List ℕ → ℕ
blanks bytes = position_or_len (λ b. not (is_blank b)) bytes

letters-blank : (b : ℕ) (bytes : List ℕ) → is_blank b ≡ true → letters (b ∷ bytes) ≡ 0
letters-blank b bytes e = rw e refl

letters-letter : (b : ℕ) (bytes : List ℕ) → is_blank b ≡ false → letters (b ∷ bytes) ≡ suc (letters bytes)
letters-letter b bytes e = rw e (omega arith)

blanks-blank : (b : ℕ) (bytes : List ℕ) → is_blank b ≡ true → blanks (b ∷ bytes) ≡ suc (blanks bytes)
blanks-blank b bytes e = rw e (omega arith)

blanks-letter : (b : ℕ) (bytes : List ℕ) → is_blank b ≡ false → blanks (b ∷ bytes) ≡ 0
blanks-letter b bytes e = rw e refl

-- a letter and the letters after it are a word
word_run : (b : ℕ) (bytes : List ℕ) → with_letter b (begins_apart bytes) (words_of bytes) ≡ (b ∷ take (letters bytes) bytes) ∷ words_of (drop (letters bytes) bytes)
word_run b [] = rw words_none refl
word_run b (c ∷ more) = by_test (is_blank c) refl (word_run c more)
  where
    by_test : (t : Bool) → is_blank c ≡ t → with_letter c (begins_apart more) (words_of more) ≡ (c ∷ take (letters more) more) ∷ words_of (drop (letters more) more) → with_letter b (is_blank c) (words_of (c ∷ more)) ≡ (b ∷ take (letters (c ∷ more)) (c ∷ more)) ∷ words_of (drop (letters (c ∷ more)) (c ∷ more))
    by_test true e h =
        ap (λ t. with_letter b t (words_of (c ∷ more))) e
        ∙ ap (λ n. (b ∷ take n (c ∷ more)) ∷ words_of (drop n (c ∷ more))) (sym (letters-blank c more e))
    by_test false e h =
        ap₂ (with_letter b) e (words_of-letter c more e ∙ h)
        ∙ ap (λ n. (b ∷ take n (c ∷ more)) ∷ words_of (drop n (c ∷ more))) (sym (letters-letter c more e))

-- what follows the blanks
abbrev pub after_blanks : List ℕ → List ℕ
after_blanks line = drop (blanks line) line

abbrev pub word_in : List ℕ → List ℕ
word_in line = take (letters (after_blanks line)) (after_blanks line)

abbrev pub rest_in : List ℕ → List ℕ
rest_in line = drop (letters (after_blanks line)) (after_blanks line)

pub after_blank : (b : ℕ) (bytes : List ℕ) → is_blank b ≡ true → after_blanks (b ∷ bytes) ≡ after_blanks bytes
after_blank b bytes e = ap (λ n. drop n (b ∷ bytes)) (blanks-blank b bytes e)

pub after_letter : (b : ℕ) (bytes : List ℕ) → is_blank b ≡ false → after_blanks (b ∷ bytes) ≡ b ∷ bytes
after_letter b bytes e = ap (λ n. drop n (b ∷ bytes)) (blanks-letter b bytes e)

-- the first word, and the others
abbrev pub words_by : List ℕ → List ℕ → List (List ℕ)
words_by word rest = cond (is_empty word) [] (word ∷ words_of rest)

pub first_word : (line : List ℕ) → words_of line ≡ words_by (word_in line) (rest_in line)
first_word [] = words_none
first_word (b ∷ bytes) = by_test (is_blank b) refl (first_word bytes)
  where
    by_test : (t : Bool) → is_blank b ≡ t → words_of bytes ≡ words_by (word_in bytes) (rest_in bytes) → words_of (b ∷ bytes) ≡ words_by (word_in (b ∷ bytes)) (rest_in (b ∷ bytes))
    by_test true e h =
        words_of-blank b bytes e ∙ (h
        ∙ ap (λ xs. words_by (take (letters xs) xs) (drop (letters xs) xs)) (sym (after_blank b bytes e)))
    by_test false e h =
        words_of-letter b bytes e ∙ (word_run b bytes
        ∙ (ap (λ n. words_by (take n (b ∷ bytes)) (drop n (b ∷ bytes))) (sym (letters-letter b bytes e))
        ∙ ap (λ xs. words_by (take (letters xs) xs) (drop (letters xs) xs)) (sym (after_letter b bytes e))))

pub no_word : (line word rest : List ℕ) → word ≡ word_in line → rest ≡ rest_in line → is_empty word ≡ true → words_of line ≡ []
no_word line word rest e f h = first_word line ∙ (ap₂ words_by (sym e) (sym f) ∙ ap (λ t. cond t [] (word ∷ words_of rest)) h)

pub one_word : (line word rest : List ℕ) → word ≡ word_in line → rest ≡ rest_in line → is_empty word ≡ false → words_of line ≡ word ∷ words_of rest
one_word line word rest e f h = first_word line ∙ (ap₂ words_by (sym e) (sym f) ∙ ap (λ t. cond t [] (word ∷ words_of rest)) h)

-- ---- a line without its CR
return_last : (b : ℕ) (xs : List ℕ) (x : ℕ) → without_return (x ∷ (xs ++ b ∷ [])) ≡ x ∷ without_return (xs ++ b ∷ [])
unfolding without_return
return_last b [] x = by_test (x == 13)
  where
    by_test : (t : Bool) → cond (t && false) [] (x ∷ without_return (b ∷ [])) ≡ x ∷ without_return (b ∷ [])
    by_test true = refl
    by_test false = refl
return_last b (y ∷ xs) x = by_test (x == 13)
  where
    by_test : (t : Bool) → cond (t && false) [] (x ∷ without_return (y ∷ (xs ++ b ∷ []))) ≡ x ∷ without_return (y ∷ (xs ++ b ∷ []))
    by_test true = refl
    by_test false = refl

pub without_return-last : (xs : List ℕ) (b : ℕ) → without_return (xs ++ b ∷ []) ≡ cond (b == 13) xs (xs ++ b ∷ [])
unfolding without_return
without_return-last [] b = by_test (b == 13)
  where
    by_test : (t : Bool) → cond (t && true) [] (b ∷ []) ≡ cond t [] (b ∷ [])
    by_test true = refl
    by_test false = refl
without_return-last (x ∷ xs) b = return_last b xs x ∙ (ap (λ ys. x ∷ ys) (without_return-last xs b) ∙ by_test (b == 13))
  where
    by_test : (t : Bool) → x ∷ cond t xs (xs ++ b ∷ []) ≡ cond t (x ∷ xs) (x ∷ (xs ++ b ∷ []))
    by_test true = refl
    by_test false = refl

pub without_return-nil : without_return [] ≡ []
unfolding without_return
without_return-nil = refl

-- a CR at the end is cut off, and nothing else is
pub return_cut : (line before : List ℕ) (last : ℕ) → line ≡ before ++ last ∷ [] → last ≡ 13 → before ≡ without_return line
return_cut line before last e t =
    sym (ap without_return e ∙ (without_return-last before last ∙ ap (λ b. cond b before (before ++ last ∷ [])) (eq-eqb last 13 t)))

pub return_kept : (line before : List ℕ) (last : ℕ) → line ≡ before ++ last ∷ [] → (last ≡ 13 → ⊥) → line ≡ without_return line
return_kept line before last e other =
    e ∙ sym (ap without_return e ∙ (without_return-last before last ∙ by_test (last == 13) refl))
  where
    by_test : (t : Bool) → (last == 13) ≡ t → cond t before (before ++ last ∷ []) ≡ before ++ last ∷ []
    by_test true is = absurd (other (eqb-true last 13 is))
    by_test false is = refl

pub return_none : {A : Type 0} (o : Option A) (line : List ℕ) → o ≡ None → (0 < length line → IsSome o) → line ≡ without_return line
return_none o [] e some = sym without_return-nil
return_none {A} o (b ∷ line) e some = absurd (true≢false (sym (subst (λ (r : Option A). IsSome r) e (some (omega arith)))))

-- ---- lines
abbrev pub is_end : ℕ → Bool
is_end b = b == 10

abbrev pub line_end : List ℕ → ℕ
line_end text = position_or_len is_end text

end-here : (b : ℕ) (text : List ℕ) → is_end b ≡ true → line_end (b ∷ text) ≡ 0
end-here b text e = rw e refl

end-later : (b : ℕ) (text : List ℕ) → is_end b ≡ false → line_end (b ∷ text) ≡ suc (line_end text)
end-later b text e = rw e (omega arith)

lines_of-end : (b : ℕ) (text : List ℕ) → is_end b ≡ true → lines_of (b ∷ text) ≡ record { whole = [] ∷ (lines_of text).whole; last = (lines_of text).last }
unfolding lines_of
lines_of-end b text e = rw e refl

abbrev pub line_and : List ℕ → Lines → Lines
line_and line after = record { whole = line ∷ after.whole; last = after.last }

lines_of-more : (b : ℕ) (text : List ℕ) (line : List ℕ) (after : Lines) → is_end b ≡ false → lines_of text ≡ line_and line after → lines_of (b ∷ text) ≡ line_and (b ∷ line) after
unfolding lines_of
lines_of-more b text line after e h = rw (e, h) refl

lines_of-open : (b : ℕ) (text last : List ℕ) → is_end b ≡ false → lines_of text ≡ record { whole = []; last = last } → lines_of (b ∷ text) ≡ record { whole = []; last = b ∷ last }
unfolding lines_of
lines_of-open b text last e h = rw (e, h) refl

pub lines_none : lines_of [] ≡ record { whole = []; last = [] }
unfolding lines_of
lines_none = refl

pub first_line : (text : List ℕ) → line_end text < length text → lines_of text ≡ line_and (take (line_end text) text) (lines_of (drop (line_end text + 1) text))
first_line [] h = absurd (omega arith)
first_line (b ∷ text) h = by_test (is_end b) refl (first_line text)
  where
    by_test : (t : Bool) → is_end b ≡ t → (line_end text < length text → lines_of text ≡ line_and (take (line_end text) text) (lines_of (drop (line_end text + 1) text))) → lines_of (b ∷ text) ≡ line_and (take (line_end (b ∷ text)) (b ∷ text)) (lines_of (drop (line_end (b ∷ text) + 1) (b ∷ text)))
    by_test true e rest =
        lines_of-end b text e
        ∙ ap (λ n. line_and (take n (b ∷ text)) (lines_of (drop (n + 1) (b ∷ text)))) (sym (end-here b text e))
    by_test false e rest =
        let z = end-later b text e in
        let y : suc (line_end text) + 1 ≡ suc (line_end text + 1) = omega arith in
        lines_of-more b text (take (line_end text) text) (lines_of (drop (line_end text + 1) text)) e (rest (omega (arith, h, z)))
        ∙ (ap (λ n. line_and (b ∷ take (line_end text) text) (lines_of (drop n (b ∷ text)))) (sym y)
        ∙ ap (λ n. line_and (take n (b ∷ text)) (lines_of (drop (n + 1) (b ∷ text)))) (sym z))

pub no_line : (text : List ℕ) → length text ≤ line_end text → lines_of text ≡ record { whole = []; last = text }
no_line [] h = lines_none
no_line (b ∷ text) h = by_test (is_end b) refl (no_line text)
  where
    by_test : (t : Bool) → is_end b ≡ t → (length text ≤ line_end text → lines_of text ≡ record { whole = []; last = text }) → lines_of (b ∷ text) ≡ record { whole = []; last = b ∷ text }
    by_test true e rest = absurd (let z = end-here b text e in omega (arith, h, z))
    by_test false e rest = lines_of-open b text text e (rest (let z = end-later b text e in omega (arith, h, z)))

-- ---- as the code finds them
pub word_found : (line rest : List ℕ) (n k : ℕ) → n ≡ unwrap_or (position (λ b. not (is_blank b)) line) (length line) → rest ≡ drop n line → k ≡ unwrap_or (position is_blank rest) (length rest) → (take k rest ≡ word_in line) × (drop k rest ≡ rest_in line)
word_found line rest n k e f g =
    let at : rest ≡ after_blanks line = f ∙ ap (λ m. drop m line) (e ∙ place_or_len (λ b. not (is_blank b)) line) in
    let end : k ≡ letters (after_blanks line) = g ∙ (place_or_len is_blank rest ∙ ap letters at) in
    (ap₂ (λ m xs. take m xs) end at, ap₂ (λ m xs. drop m xs) end at)

pub empty_test : (word : List ℕ) → is_empty word ≡ (length word == 0)
empty_test [] = refl
empty_test (x ∷ word) = grind arith

pub end_none : (text : List ℕ) → position is_end text ≡ None → length text ≤ line_end text
end_none text e =
    let n : line_end text ≡ length text = sym (place_or_len is_end text) ∙ ap (λ o. unwrap_or o (length text)) e in
    omega (arith, n)

pub end_some : (text : List ℕ) (end : ℕ) → position is_end text ≡ Some end → line_end text ≡ end
end_some text end e = sym (place_or_len is_end text) ∙ ap (λ o. unwrap_or o (length text)) e
