-- Lines of one number each, as a feed takes them.
use Rattle.std.proofs.Common.{◌≡◌, ℕ, zero, suc, ◌+◌, ◌^◌, ◌<◌, ◌==◌, nat_lt, Bool, true, false, List, [], ◌∷◌, ◌++◌, length, Option, Some, None, refl, ap, ◌∙◌, arith, rules, if◌then◌else◌}
use Rattle.std.specs.Prelude.{decimal, option_map, IfSome, ⊤}
use Rattle.std.specs.List.{list_all}
use Rattle.std.proofs.lemmas.Bool.{and_parts}
use Rattle.std.proofs.lemmas.Bool.Decides.{nat_tests}
use Rattle.std.proofs.lemmas.Fmt.{digits_decimal, digits_value-decimal, decimal_nonempty}
use Rattle.std.proofs.lemmas.Str.Parse.{IsNumeralModel, numerals_by_fold}
use Rattle.pr_samples.specs.declared.tails.Tail.{Tail}
use Rattle.pr_samples.specs.Lines.{Whole, lines_of, words_of, without_return, is_blank}
use Rattle.pr_samples.specs.Fed.{is_digit, value_after, is_number, numbers_of, Taken, Skipped, Lawful, Unlawful, CutShort, lawful_if, whole_taken, taken, Fed, End, ending_by, line_and, fed_lines, fed_text}

-- ---- digits
own : IsNumeralModel (λ ds. list_all is_digit ds ≡ true) (value_after 0)
own = numerals_by_fold _ (search rules) value_after (search rules)

-- a digit ends no line and no word
record IsPlain (b : ℕ) : Type 0 where
  no_end : (b == 10) ≡ false
  no_return : (b == 13) ≡ false
  no_blank : is_blank b ≡ false

digit_plain : (b : ℕ) → is_digit b ≡ true → IsPlain b
digit_plain b d = record { no_end = grind (arith, nat_tests); no_return = grind (arith, nat_tests); no_blank = grind (arith, nat_tests) }

-- digits and an LF are a line
lines_of-digits : (digits text : List ℕ) → list_all is_digit digits ≡ true
    → lines_of (digits ++ 10 ∷ text) ≡ record { whole = digits ∷ (lines_of text).whole; last = (lines_of text).last }
unfolding lines_of
lines_of-digits [] text d = refl
lines_of-digits (b ∷ digits) text d =
    let parts = and_parts (is_digit b) (list_all is_digit digits) d in
    rw ((digit_plain b parts.0).no_end, lines_of-digits digits text parts.1) refl

without_return-digits : (digits : List ℕ) → list_all is_digit digits ≡ true → without_return digits ≡ digits
unfolding without_return
without_return-digits [] d = refl
without_return-digits (b ∷ digits) d =
    let parts = and_parts (is_digit b) (list_all is_digit digits) d in
    rw ((digit_plain b parts.0).no_return, without_return-digits digits parts.1) refl

words_of-digits : (b : ℕ) (digits : List ℕ) → list_all is_digit (b ∷ digits) ≡ true → words_of (b ∷ digits) ≡ (b ∷ digits) ∷ []
unfolding words_of
words_of-digits b [] d =
    let parts = and_parts (is_digit b) true d in
    rw (digit_plain b parts.0).no_blank refl
words_of-digits b (c ∷ digits) d =
    let parts = and_parts (is_digit b) (list_all is_digit (c ∷ digits)) d in
    let next = and_parts (is_digit c) (list_all is_digit digits) parts.1 in
    rw ((digit_plain b parts.0).no_blank, words_of-digits c digits parts.1, (digit_plain c next.0).no_blank) refl

one_word : (digits : List ℕ) → 0 < length digits → list_all is_digit digits ≡ true → words_of (without_return digits) ≡ digits ∷ []
one_word [] some d = absurd (omega arith)
one_word (b ∷ digits) some d = ap words_of (without_return-digits (b ∷ digits) d) ∙ words_of-digits b digits d

-- ---- a number
number_word : (n : ℕ) → n < 2 ^ 64 → words_of (without_return (decimal n)) ≡ decimal n ∷ []
number_word n h = one_word (decimal n) (decimal_nonempty n h) (digits_decimal own n h)

-- a number of the one input is a sample
pub number_taken : (w n : ℕ) → n < 2 ^ 64 → n < 2 ^ w → taken (w ∷ []) (Whole (decimal n)) ≡ Lawful (n ∷ [])
number_taken w n h low =
    let below : nat_lt n (2 ^ w) ≡ true = grind (arith, nat_tests) in
    ap (whole_taken (w ∷ [])) (number_word n h) ∙ rw (digits_decimal own n h, digits_value-decimal own n h, below) refl

-- a line is this sample, or bad
abbrev pub IsOneOrBad : List ℕ → Taken → Type 0
IsOneOrBad row Skipped = ⊥
IsOneOrBad row (Lawful ns) = ns ≡ row
IsOneOrBad row Unlawful = ⊤
IsOneOrBad row CutShort = ⊥

numbers_of-one : (widths word : List ℕ) (n : ℕ) → value_after 0 word ≡ n → IfSome (numbers_of widths (word ∷ [])) (λ ns. ns ≡ n ∷ [])
numbers_of-one [] word n value = tt
numbers_of-one (w ∷ widths) word n value = by (is_number w word)
  where
    by : (t : Bool) → IfSome (if t then option_map (λ ns. value_after 0 word ∷ ns) (Some []) else None) (λ ns. ns ≡ n ∷ [])
    by true = ap (λ v. v ∷ []) value
    by false = tt

one_or_bad : (t : Bool) (o : Option (List ℕ)) (row : List ℕ) → IfSome o (λ ns. ns ≡ row) → IsOneOrBad row (if t then lawful_if o else Unlawful)
one_or_bad true None row h = tt
one_or_bad true (Some ns) row h = h
one_or_bad false o row h = tt

-- whatever the inputs are
pub number_taken_or_bad : (widths : List ℕ) (n : ℕ) → n < 2 ^ 64 → IsOneOrBad (n ∷ []) (taken widths (Whole (decimal n)))
number_taken_or_bad widths n h =
    let word = decimal n in
    rw (number_word n h) (one_or_bad (1 == length widths) (numbers_of widths (word ∷ [])) (n ∷ []) (numbers_of-one widths word n (digits_value-decimal own n h)))

-- ---- a line and more
pub fed_text-number : (widths : List ℕ) (most passed : ℕ) (tail : Tail) (n : ℕ) (text : List ℕ) → n < 2 ^ 64
    → fed_text widths most passed tail (decimal n ++ 10 ∷ text) ≡ line_and (taken widths (Whole (decimal n))) (passed + 1) most (λ left. fed_text widths left (passed + 1) tail text)
unfolding fed_text fed_lines
fed_text-number widths most passed tail n text h = rw (lines_of-digits (decimal n) text (digits_decimal own n h)) refl

pub fed_text-none : (widths : List ℕ) (most passed : ℕ) → fed_text widths most passed Tail.Ended [] ≡ ending_by End
unfolding fed_text fed_lines lines_of words_of without_return
fed_text-none widths most passed = refl

-- where all is read to the end, the line was a sample
pub line_and-end : (t : Taken) (row : List ℕ) (rows : List (List ℕ)) (number most : ℕ) (after : ℕ → Fed) → IsOneOrBad row t → (line_and t number most after).ending ≡ End
    → ((left : ℕ) → (after left).ending ≡ End → (after left).samples ≡ rows) → (line_and t number most after).samples ≡ row ∷ rows
line_and-end Skipped row rows number most after is end more = absurd is
line_and-end (Lawful ns) row rows number zero after is end more = cc
line_and-end (Lawful ns) row rows number (suc most) after is end more = rw (is, more most end) refl
line_and-end Unlawful row rows number most after is end more = cc
line_and-end CutShort row rows number most after is end more = absurd is
