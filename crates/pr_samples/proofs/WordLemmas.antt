-- A line, read byte by byte and by its words.
use Rattle.std.proofs.Common.{◌≡◌, ℕ, suc, ap₂, ◌+◌, ◌-◌, ◌*◌, ◌^◌, ◌<◌, ◌≤◌, ◌==◌, ◌&&◌, ◌||◌, not, nat_lt, Bool, true, false, List, [], ◌∷◌, ◌++◌, drop, length, length-drop, Option, Some, None, refl, ap, sym, ◌∙◌, subst, arith, inl, inr, append-nil, append_assoc, if◌then◌else◌}
use Rattle.std.specs.Prelude.{is_some, option_map, IfSome, ⊤}
use Rattle.std.specs.List.{list_any, list_all}
use Rattle.std.proofs.lemmas.List.{drop_all}
use Rattle.std.proofs.lemmas.Bool.Decides.{nat_tests, eqb_tells}
use Rattle.pr_samples.specs.declared.scan.Phase.{Phase}
use Rattle.pr_samples.specs.Lines.{Whole, CutOff, is_blank, with_letter, begins_apart, words_of, without_return}
use Rattle.pr_samples.specs.Fed.{is_digit, value_after, is_number, numbers_of, Taken, Lawful, Unlawful, CutShort, lawful_if, whole_taken, taken}
use Rattle.pr_samples.specs.Scan.{Scan, fresh, in_phase, fits_next, grown, with_digit, finished, step, taken_numbers, whole_end, closed_end, cut_end}
use Rattle.pr_samples.proofs.ScanLemmas.{closed_end-some}

-- the scan after these bytes
abbrev pub scanned : Scan → List ℕ → Scan
scanned s [] = s
scanned s (b ∷ bytes) = scanned (step s b) bytes

pub scanned-push : (s : Scan) (bytes : List ℕ) (b : ℕ) → scanned s (bytes ++ b ∷ []) ≡ step (scanned s bytes) b
scanned-push s [] b = refl
scanned-push s (x ∷ bytes) b = scanned-push (step s x) bytes b

abbrev pub at_phase : List ℕ → List ℕ → Phase → Scan
at_phase done left phase = record { done = done; left = left; phase = phase }

-- what a scan has read and what is left, unless the line is bad
pub record Rest : Type 0 where
  pub done : List ℕ
  pub left : List ℕ

abbrev pub rest_of : List ℕ → List ℕ → Rest
rest_of done left = record { done = done; left = left }

abbrev pub closed_of : Scan → Option Rest
closed_of s = elim s.phase [
  | Phase.Gap ↦ Some (rest_of s.done s.left)
  | Phase.Number n ↦ Some (rest_of (s.done ++ n ∷ []) (drop 1 s.left))
  | Phase.Closed ↦ Some (rest_of s.done s.left)
  | Phase.Wrong ↦ None
]

abbrev read_words : List ℕ → List ℕ → List (List ℕ) → Option Rest
read_words done left [] = Some (rest_of done left)
read_words done [] (x ∷ xs) = None
read_words done (w ∷ left) (x ∷ xs) = if is_number w x then read_words (done ++ value_after 0 x ∷ []) left xs else None

-- the words after a number that is begun; `apart` says that they stand apart from it
abbrev joined : List ℕ → ℕ → List ℕ → ℕ → Bool → List (List ℕ) → Option Rest
joined done w left n true words = read_words (done ++ n ∷ []) left words
joined done w left n false [] = read_words (done ++ n ∷ []) left []
joined done w left n false (x ∷ xs) = if list_all is_digit x && nat_lt (value_after n x) (2 ^ w) then read_words (done ++ value_after n x ∷ []) left xs else None

all_same : (x y z : Bool) (s : Scan) → (if x then s else (if y then s else (if z then s else s))) ≡ s
all_same true y z s = refl
all_same false true z s = refl
all_same false false true s = refl
all_same false false false s = refl

step-wrong : (done left : List ℕ) (b : ℕ) → step (at_phase done left Phase.Wrong) b ≡ at_phase done left Phase.Wrong
unfolding step
step-wrong done left b = all_same (is_digit b) (is_blank b) (b == 13) (at_phase done left Phase.Wrong)

pub step-closed : (done left : List ℕ) (b : ℕ) → step (at_phase done left Phase.Closed) b ≡ at_phase done left Phase.Wrong
unfolding step
step-closed done left b = all_same (is_digit b) (is_blank b) (b == 13) (at_phase done left Phase.Wrong)

pub step-digit : (s : Scan) (b : ℕ) → is_digit b ≡ true → step s b ≡ with_digit s (b - 48)
unfolding step
step-digit s b d = rw d refl

pub step-blank : (s : Scan) (b : ℕ) → is_digit b ≡ false → is_blank b ≡ true → step s b ≡ finished s Phase.Gap
unfolding step
step-blank s b d e = rw (d, e) refl

step-return : (s : Scan) (b : ℕ) → is_digit b ≡ false → is_blank b ≡ false → (b == 13) ≡ true → step s b ≡ finished s Phase.Closed
unfolding step
step-return s b d e f = rw (d, e, f) refl

step-other : (s : Scan) (b : ℕ) → is_digit b ≡ false → is_blank b ≡ false → (b == 13) ≡ false → step s b ≡ in_phase s Phase.Wrong
unfolding step
step-other s b d e f = rw (d, e, f) refl

pub scanned-wrong : (done left bytes : List ℕ) → scanned (at_phase done left Phase.Wrong) bytes ≡ at_phase done left Phase.Wrong
scanned-wrong done left [] = refl
scanned-wrong done left (b ∷ bytes) = ap (λ s. scanned s bytes) (step-wrong done left b) ∙ scanned-wrong done left bytes

digit_no_blank : (b : ℕ) → is_digit b ≡ true → is_blank b ≡ false
digit_no_blank b d = grind (arith, nat_tests)

digit_no_return : (b : ℕ) → is_digit b ≡ true → (b == 13) ≡ false
digit_no_return b d = grind (arith, nat_tests)

blank_no_return : (b : ℕ) → is_blank b ≡ true → (b == 13) ≡ false
blank_no_return b e = grind (arith, nat_tests)

pub value_after-ge : (n : ℕ) (digits : List ℕ) → n ≤ value_after n digits
value_after-ge n [] = omega arith
value_after-ge n (b ∷ digits) = omega (arith, value_after-ge (10 * n + (b - 48)) digits)

above_stays : (m : ℕ) (digits : List ℕ) (top : ℕ) → nat_lt m top ≡ false → nat_lt (value_after m digits) top ≡ false
above_stays m digits top h = let more = value_after-ge m digits in grind (arith, nat_tests)

and_false : (x : Bool) → (x && false) ≡ false
and_false true = refl
and_false false = refl

-- a digit in front of the words goes on with the number
joined-digit : (done : List ℕ) (w : ℕ) (left : List ℕ) (n b : ℕ) (a : Bool) (words : List (List ℕ)) → is_digit b ≡ true
    → joined done w left n false (with_letter b a words) ≡ (if nat_lt (10 * n + (b - 48)) (2 ^ w) then joined done w left (10 * n + (b - 48)) a words else None)
joined-digit done w left n b true words d = rw d refl
joined-digit done w left n b false [] d = rw d refl
joined-digit done w left n b false (x ∷ xs) d = rw d (longer (nat_lt (10 * n + (b - 48)) (2 ^ w)) refl)
  where
    m : ℕ
    m = 10 * n + (b - 48)

    longer : (t : Bool) → nat_lt m (2 ^ w) ≡ t
        → (if list_all is_digit x && nat_lt (value_after m x) (2 ^ w) then read_words (done ++ value_after m x ∷ []) left xs else None)
        ≡ (if t then (if list_all is_digit x && nat_lt (value_after m x) (2 ^ w) then read_words (done ++ value_after m x ∷ []) left xs else None) else None)
    longer true e = refl
    longer false e = rw (above_stays m x (2 ^ w) e, and_false (list_all is_digit x)) refl

-- another letter in front of the words makes the line bad
joined-letter : (done : List ℕ) (w : ℕ) (left : List ℕ) (n b : ℕ) (a : Bool) (words : List (List ℕ)) → is_digit b ≡ false → joined done w left n false (with_letter b a words) ≡ None
joined-letter done w left n b true words d = rw d refl
joined-letter done w left n b false [] d = rw d refl
joined-letter done w left n b false (x ∷ xs) d = rw d refl

-- the first word is a number that is begun with nothing
read_words-letter : (done : List ℕ) (w : ℕ) (left : List ℕ) (b : ℕ) (a : Bool) (words : List (List ℕ)) → read_words done (w ∷ left) (with_letter b a words) ≡ joined done w left 0 false (with_letter b a words)
read_words-letter done w left b true words = refl
read_words-letter done w left b false [] = refl
read_words-letter done w left b false (x ∷ xs) = refl

read_words-full : (done : List ℕ) (b : ℕ) (a : Bool) (words : List (List ℕ)) → read_words done [] (with_letter b a words) ≡ None
read_words-full done b true words = refl
read_words-full done b false [] = refl
read_words-full done b false (x ∷ xs) = refl

read_words-bad : (done left : List ℕ) (b : ℕ) (a : Bool) (words : List (List ℕ)) → is_digit b ≡ false → read_words done left (with_letter b a words) ≡ None
read_words-bad done [] b a words d = read_words-full done b a words
read_words-bad done (w ∷ left) b a words d = read_words-letter done w left b a words ∙ joined-letter done w left 0 b a words d

without_return-cons : (b : ℕ) (bytes : List ℕ) → (b == 13) ≡ false → without_return (b ∷ bytes) ≡ b ∷ without_return bytes
unfolding without_return
without_return-cons b bytes f = rw f refl

without_return-more : (b c : ℕ) (bytes : List ℕ) → without_return (b ∷ c ∷ bytes) ≡ b ∷ without_return (c ∷ bytes)
unfolding without_return
without_return-more b c bytes = rw (and_false (b == 13)) refl

words_of-blank : (b : ℕ) (bytes : List ℕ) → is_blank b ≡ true → words_of (b ∷ bytes) ≡ words_of bytes
unfolding words_of
words_of-blank b bytes e = rw e refl

words_of-letter : (b : ℕ) (bytes : List ℕ) → is_blank b ≡ false → words_of (b ∷ bytes) ≡ with_letter b (begins_apart bytes) (words_of bytes)
unfolding words_of
words_of-letter b bytes e = rw e refl

-- the bytes are read as their words are
record Reads (bytes : List ℕ) : Type 0 where
  gap : (done left : List ℕ) → closed_of (scanned (at_phase done left Phase.Gap) bytes) ≡ read_words done left (words_of (without_return bytes))
  number : (done : List ℕ) (w : ℕ) (left : List ℕ) (n : ℕ)
      → closed_of (scanned (at_phase done (w ∷ left) (Phase.Number n)) bytes) ≡ joined done w left n (begins_apart (without_return bytes)) (words_of (without_return bytes))

reads_none : Reads []
unfolding words_of without_return
reads_none = record { gap = λ done left. refl; number = λ done w left n. refl }

digit_case : (bytes done : List ℕ) (w : ℕ) (left : List ℕ) (m : ℕ) → Reads bytes → (t : Bool)
    → closed_of (scanned (if t then at_phase done (w ∷ left) (Phase.Number m) else at_phase done (w ∷ left) Phase.Wrong) bytes)
    ≡ (if t then joined done w left m (begins_apart (without_return bytes)) (words_of (without_return bytes)) else None)
digit_case bytes done w left m h true = h.number done w left m
digit_case bytes done w left m h false = ap closed_of (scanned-wrong done (w ∷ left) bytes)

reads_digit : (b : ℕ) (bytes : List ℕ) → Reads bytes → is_digit b ≡ true → Reads (b ∷ bytes)
reads_digit b bytes h d =
    let q = without_return bytes in
    let same = without_return-cons b bytes (digit_no_return b d) in
    let words : words_of (without_return (b ∷ bytes)) ≡ with_letter b (begins_apart q) (words_of q) = ap words_of same ∙ words_of-letter b q (digit_no_blank b d) in
    record {
      gap = λ done left. ap (λ s. closed_of (scanned s bytes)) (step-digit (at_phase done left Phase.Gap) b d) ∙ first done left ∙ ap (read_words done left) (sym words);
      number = λ done w left n.
          ap (λ s. closed_of (scanned s bytes)) (step-digit (at_phase done (w ∷ left) (Phase.Number n)) b d)
          ∙ digit_case bytes done w left (10 * n + (b - 48)) h (nat_lt (10 * n + (b - 48)) (2 ^ w))
          ∙ sym (joined-digit done w left n b (begins_apart q) (words_of q) d)
          ∙ ap₂ (joined done w left n) (sym (ap begins_apart same ∙ digit_no_blank b d)) (sym words);
    }
  where
    zero_more : 10 * 0 + (b - 48) ≡ b - 48
    zero_more = omega arith

    first : (done left : List ℕ) → closed_of (scanned (grown (at_phase done left Phase.Gap) (b - 48)) bytes) ≡ read_words done left (with_letter b (begins_apart (without_return bytes)) (words_of (without_return bytes)))
    first done [] = ap closed_of (scanned-wrong done [] bytes) ∙ sym (read_words-full done b (begins_apart (without_return bytes)) (words_of (without_return bytes)))
    first done (w ∷ left) =
        digit_case bytes done w left (b - 48) h (nat_lt (b - 48) (2 ^ w))
        ∙ ap (λ m. if nat_lt m (2 ^ w) then joined done w left m (begins_apart (without_return bytes)) (words_of (without_return bytes)) else None) (sym zero_more)
        ∙ sym (read_words-letter done w left b (begins_apart (without_return bytes)) (words_of (without_return bytes)) ∙ joined-digit done w left 0 b (begins_apart (without_return bytes)) (words_of (without_return bytes)) d)

reads_blank : (b : ℕ) (bytes : List ℕ) → Reads bytes → is_digit b ≡ false → is_blank b ≡ true → Reads (b ∷ bytes)
reads_blank b bytes h d e =
    let q = without_return bytes in
    let same = without_return-cons b bytes (blank_no_return b e) in
    let words : words_of (without_return (b ∷ bytes)) ≡ words_of q = ap words_of same ∙ words_of-blank b q e in
    record {
      gap = λ done left. ap (λ s. closed_of (scanned s bytes)) (step-blank (at_phase done left Phase.Gap) b d e) ∙ h.gap done left ∙ ap (read_words done left) (sym words);
      number = λ done w left n.
          ap (λ s. closed_of (scanned s bytes)) (step-blank (at_phase done (w ∷ left) (Phase.Number n)) b d e)
          ∙ h.gap (done ++ n ∷ []) left
          ∙ ap₂ (joined done w left n) (sym (ap begins_apart same ∙ e)) (sym words);
    }

reads_bad : (b : ℕ) (bytes : List ℕ) → is_digit b ≡ false → is_blank b ≡ false → without_return (b ∷ bytes) ≡ b ∷ without_return bytes
    → ((done left : List ℕ) → closed_of (scanned (step (at_phase done left Phase.Gap) b) bytes) ≡ None)
    → ((done : List ℕ) (w : ℕ) (left : List ℕ) (n : ℕ) → closed_of (scanned (step (at_phase done (w ∷ left) (Phase.Number n)) b) bytes) ≡ None)
    → Reads (b ∷ bytes)
reads_bad b bytes d e same gap number =
    let q = without_return bytes in
    let words : words_of (without_return (b ∷ bytes)) ≡ with_letter b (begins_apart q) (words_of q) = ap words_of same ∙ words_of-letter b q e in
    record {
      gap = λ done left. gap done left ∙ sym (ap (read_words done left) words ∙ read_words-bad done left b (begins_apart q) (words_of q) d);
      number = λ done w left n.
          number done w left n ∙ sym (ap₂ (joined done w left n) (ap begins_apart same ∙ e) words ∙ joined-letter done w left n b (begins_apart q) (words_of q) d);
    }

reads_return : (b : ℕ) (bytes : List ℕ) → is_digit b ≡ false → is_blank b ≡ false → (b == 13) ≡ true → Reads (b ∷ bytes)
unfolding words_of without_return
reads_return b [] d e f = record {
  gap = λ done left. ap closed_of (step-return (at_phase done left Phase.Gap) b d e f) ∙ rw f refl;
  number = λ done w left n. ap closed_of (step-return (at_phase done (w ∷ left) (Phase.Number n)) b d e f) ∙ rw f refl;
}
reads_return b (c ∷ bytes) d e f =
    reads_bad b (c ∷ bytes) d e (without_return-more b c bytes)
    (λ done left. ap (λ s. closed_of (scanned (step s c) bytes)) (step-return (at_phase done left Phase.Gap) b d e f) ∙ ap (λ s. closed_of (scanned s bytes)) (step-closed done left c) ∙ ap closed_of (scanned-wrong done left bytes))
    (λ done w left n.
    ap (λ s. closed_of (scanned (step s c) bytes)) (step-return (at_phase done (w ∷ left) (Phase.Number n)) b d e f) ∙ ap (λ s. closed_of (scanned s bytes)) (step-closed (done ++ n ∷ []) left c) ∙ ap closed_of (scanned-wrong (done ++ n ∷ []) left bytes))

reads_other : (b : ℕ) (bytes : List ℕ) → is_digit b ≡ false → is_blank b ≡ false → (b == 13) ≡ false → Reads (b ∷ bytes)
reads_other b bytes d e f =
    reads_bad b bytes d e (without_return-cons b bytes f)
    (λ done left. ap (λ s. closed_of (scanned s bytes)) (step-other (at_phase done left Phase.Gap) b d e f) ∙ ap closed_of (scanned-wrong done left bytes))
    (λ done w left n. ap (λ s. closed_of (scanned s bytes)) (step-other (at_phase done (w ∷ left) (Phase.Number n)) b d e f) ∙ ap closed_of (scanned-wrong done (w ∷ left) bytes))

reads_byte : (b : ℕ) (bytes : List ℕ) → Reads bytes → (x y z : Bool) → is_digit b ≡ x → is_blank b ≡ y → (b == 13) ≡ z → Reads (b ∷ bytes)
reads_byte b bytes h true y z d e f = reads_digit b bytes h d
reads_byte b bytes h false true z d e f = reads_blank b bytes h d e
reads_byte b bytes h false false true d e f = reads_return b bytes d e f
reads_byte b bytes h false false false d e f = reads_other b bytes d e f

reads : (bytes : List ℕ) → Reads bytes
reads [] = reads_none
reads (b ∷ bytes) = reads_byte b bytes (reads bytes) (is_digit b) (is_blank b) (b == 13) refl refl refl

-- the numbers are one for each word, and no more than the inputs
pub record Fits (widths : List ℕ) (words : List (List ℕ)) (numbers : List ℕ) : Type 0 where
  pub one_each : length numbers ≡ length words
  pub within : length words ≤ length widths

pub numbers_of-fits : (widths : List ℕ) (words : List (List ℕ)) → IfSome (numbers_of widths words) (Fits widths words)
numbers_of-fits widths [] = record { one_each = refl; within = omega arith }
numbers_of-fits [] (x ∷ xs) = tt
numbers_of-fits (w ∷ widths) (x ∷ xs) = more (is_number w x) (numbers_of widths xs) (numbers_of-fits widths xs)
  where
    more : (t : Bool) (o : Option (List ℕ)) → IfSome o (Fits widths xs) → IfSome (if t then option_map (λ ns. value_after 0 x ∷ ns) o else None) (Fits (w ∷ widths) (x ∷ xs))
    more false o h = tt
    more true None h = tt
    more true (Some ns) h = record { one_each = omega (arith, h.one_each); within = omega (arith, h.within) }

read_words-numbers : (done left : List ℕ) (words : List (List ℕ)) → read_words done left words ≡ option_map (λ ns. rest_of (done ++ ns) (drop (length words) left)) (numbers_of left words)
read_words-numbers done left [] = ap (λ d. Some (rest_of d left)) (sym (append-nil done))
read_words-numbers done [] (x ∷ xs) = refl
read_words-numbers done (w ∷ left) (x ∷ xs) = more (is_number w x) (read_words-numbers (done ++ value_after 0 x ∷ []) left xs)
  where
    v : ℕ
    v = value_after 0 x

    tail : (o : Option (List ℕ))
        → option_map (λ ns. rest_of ((done ++ v ∷ []) ++ ns) (drop (length xs) left)) o ≡ option_map (λ ns. rest_of (done ++ ns) (drop (length (x ∷ xs)) (w ∷ left))) (option_map (λ ns. v ∷ ns) o)
    tail None = refl
    tail (Some ns) = ap (λ d. Some (rest_of d (drop (length xs) left))) (append_assoc done (v ∷ []) ns)

    more : (t : Bool) → read_words (done ++ v ∷ []) left xs ≡ option_map (λ ns. rest_of ((done ++ v ∷ []) ++ ns) (drop (length xs) left)) (numbers_of left xs)
        → (if t then read_words (done ++ v ∷ []) left xs else None)
        ≡ option_map (λ ns. rest_of (done ++ ns) (drop (length (x ∷ xs)) (w ∷ left))) (if t then option_map (λ ns. v ∷ ns) (numbers_of left xs) else None)
    more false h = refl
    more true h = h ∙ tail (numbers_of left xs)

-- a fresh line, read by its words
pub scanned-closed : (widths bytes : List ℕ)
    → closed_of (scanned (fresh widths) bytes) ≡ option_map (λ ns. rest_of ns (drop (length (words_of (without_return bytes))) widths)) (numbers_of widths (words_of (without_return bytes)))
scanned-closed widths bytes = (reads bytes).gap [] widths ∙ read_words-numbers [] widths (words_of (without_return bytes))

abbrev whole_of : Option Rest → Taken
whole_of None = Unlawful
whole_of (Some r) = taken_numbers r.done r.left

whole_end-closed : (done left : List ℕ) (phase : Phase) → whole_end (at_phase done left phase) ≡ whole_of (closed_of (at_phase done left phase))
unfolding whole_end
whole_end-closed done left Phase.Gap = refl
whole_end-closed done left (Phase.Number n) = refl
whole_end-closed done left Phase.Closed = refl
whole_end-closed done left Phase.Wrong = refl

-- the numbers of a line against its inputs
taken_numbers-count : (widths ns : List ℕ) (k : ℕ) → length ns ≡ suc k → suc k ≤ length widths → taken_numbers ns (drop (suc k) widths) ≡ (if suc k == length widths then Lawful ns else Unlawful)
taken_numbers-count widths ns k count within =
    elim (eqb_tells (suc k) (length widths)) [
      | inl e ↦ rw (e.0, drop_all (suc k) widths (omega (arith, e.1))) (all ns count)
      | inr e ↦ rw e.0 (some ns (drop (suc k) widths) count (simp length-drop (omega (arith, e.1))))
    ]
  where
    all : (ns : List ℕ) → length ns ≡ suc k → taken_numbers ns [] ≡ Lawful ns
    all [] h = absurd (omega (arith, h))
    all (n ∷ ns) h = refl

    some : (ns ws : List ℕ) → length ns ≡ suc k → 0 < length ws → taken_numbers ns ws ≡ Unlawful
    some [] ws h l = absurd (omega (arith, h))
    some (n ∷ ns) [] h l = absurd (omega (arith, l))
    some (n ∷ ns) (w ∷ ws) h l = refl

whole_of-words : (widths : List ℕ) (words : List (List ℕ)) → whole_of (option_map (λ ns. rest_of ns (drop (length words) widths)) (numbers_of widths words)) ≡ whole_taken widths words
whole_of-words widths [] = refl
whole_of-words widths (x ∷ xs) = cases (numbers_of widths (x ∷ xs)) (numbers_of-fits widths (x ∷ xs))
  where
    same : (t : Bool) → Unlawful ≡ (if t then Unlawful else Unlawful)
    same true = refl
    same false = refl

    cases : (o : Option (List ℕ)) → IfSome o (Fits widths (x ∷ xs))
        → whole_of (option_map (λ ns. rest_of ns (drop (length (x ∷ xs)) widths)) o) ≡ (if length (x ∷ xs) == length widths then lawful_if o else Unlawful)
    cases None h = same (length (x ∷ xs) == length widths)
    cases (Some ns) h = taken_numbers-count widths ns (length xs) h.one_each h.within

-- a whole line
pub whole_end-taken : (widths bytes : List ℕ) → whole_end (scanned (fresh widths) bytes) ≡ taken widths (Whole bytes)
whole_end-taken widths bytes =
    let s = scanned (fresh widths) bytes in
    whole_end-closed s.done s.left s.phase ∙ ap whole_of (scanned-closed widths bytes) ∙ whole_of-words widths (words_of (without_return bytes))

-- a line shows its CR
abbrev pub Agrees : Bool → Phase → Type 0
Agrees c Phase.Gap = c ≡ false
Agrees c (Phase.Number n) = c ≡ false
Agrees c Phase.Closed = c ≡ true
Agrees c Phase.Wrong = ⊤

abbrev pub is_open : Phase → Type 0
is_open Phase.Gap = ⊤
is_open (Phase.Number n) = ⊤
is_open Phase.Closed = ⊥
is_open Phase.Wrong = ⊥

abbrev pub has_return : List ℕ → Bool
has_return bytes = list_any (λ b. b == 13) bytes

agrees_wrong : (c : Bool) (done left bytes : List ℕ) → Agrees c (scanned (at_phase done left Phase.Wrong) bytes).phase
agrees_wrong c done left bytes = rw (scanned-wrong done left bytes) tt

-- what a byte makes of a line that shows no CR yet
data After : Scan → Bool → Type 0 where
  Opens : (s : Scan) → is_open s.phase → After s false
  Closes : (done left : List ℕ) → After (at_phase done left Phase.Closed) true
  Fails : (done left : List ℕ) (c : Bool) → After (at_phase done left Phase.Wrong) c

grown_opens : (s : Scan) (n : ℕ) → After (grown s n) false
grown_opens s n = either (fits_next s.left n)
  where
    either : (t : Bool) → After (if t then in_phase s (Phase.Number n) else in_phase s Phase.Wrong) false
    either true = Opens (in_phase s (Phase.Number n)) tt
    either false = Fails s.done s.left false

after_digit : (s : Scan) (d : ℕ) → is_open s.phase → After (with_digit s d) false
after_digit s d o = by s.done s.left s.phase o
  where
    by : (done left : List ℕ) (phase : Phase) → is_open phase → After (with_digit (at_phase done left phase) d) false
    by done left Phase.Gap o = grown_opens (at_phase done left Phase.Gap) d
    by done left (Phase.Number n) o = grown_opens (at_phase done left (Phase.Number n)) (10 * n + d)
    by done left Phase.Closed o = absurd o
    by done left Phase.Wrong o = absurd o

after_blank : (s : Scan) → is_open s.phase → After (finished s Phase.Gap) false
after_blank s o = by s.done s.left s.phase o
  where
    by : (done left : List ℕ) (phase : Phase) → is_open phase → After (finished (at_phase done left phase) Phase.Gap) false
    by done left Phase.Gap o = Opens (at_phase done left Phase.Gap) tt
    by done left (Phase.Number n) o = Opens (at_phase (done ++ n ∷ []) (drop 1 left) Phase.Gap) tt
    by done left Phase.Closed o = absurd o
    by done left Phase.Wrong o = absurd o

after_return : (s : Scan) → is_open s.phase → After (finished s Phase.Closed) true
after_return s o = by s.done s.left s.phase o
  where
    by : (done left : List ℕ) (phase : Phase) → is_open phase → After (finished (at_phase done left phase) Phase.Closed) true
    by done left Phase.Gap o = Closes done left
    by done left (Phase.Number n) o = Closes (done ++ n ∷ []) (drop 1 left)
    by done left Phase.Closed o = absurd o
    by done left Phase.Wrong o = absurd o

after_byte : (s : Scan) (b : ℕ) → is_open s.phase → (x y z : Bool) → is_digit b ≡ x → is_blank b ≡ y → (b == 13) ≡ z → After (step s b) (b == 13)
after_byte s b o true y z d e f = rw (step-digit s b d, digit_no_return b d) (after_digit s (b - 48) o)
after_byte s b o false true z d e f = rw (step-blank s b d e, blank_no_return b e) (after_blank s o)
after_byte s b o false false true d e f = rw (step-return s b d e f, f) (after_return s o)
after_byte s b o false false false d e f = rw (step-other s b d e f) (Fails s.done s.left (b == 13))

agrees_after : (bytes : List ℕ) (t : Scan) (c : Bool) → After t c → ((s : Scan) → is_open s.phase → Agrees (has_return bytes) (scanned s bytes).phase) → Agrees (c || has_return bytes) (scanned t bytes).phase
agrees_after bytes t c (Opens s o) h = h s o
agrees_after [] t c (Closes done left) h = refl
agrees_after (b ∷ bytes) t c (Closes done left) h = subst (λ (s : Scan). Agrees true (scanned s bytes).phase) (sym (step-closed done left b)) (agrees_wrong true done left bytes)
agrees_after bytes t c (Fails done left d) h = agrees_wrong (d || has_return bytes) done left bytes

pub agrees : (bytes : List ℕ) (s : Scan) → is_open s.phase → Agrees (has_return bytes) (scanned s bytes).phase
agrees [] s o = none s.phase o
  where
    none : (phase : Phase) → is_open phase → Agrees false phase
    none Phase.Gap o = refl
    none (Phase.Number n) o = refl
    none Phase.Closed o = absurd o
    none Phase.Wrong o = absurd o
agrees (b ∷ bytes) s o = agrees_after bytes (step s b) (b == 13) (after_byte s b o (is_digit b) (is_blank b) (b == 13) refl refl refl) (agrees bytes)

pub none_or_some : (r : Rest) → None ≡ Some r → ⊥
none_or_some r e = cc

abbrev pub left_in : Option Rest → List ℕ
left_in None = []
left_in (Some r) = r.left

pub left_is : (left left' done done' : List ℕ) → Some (rest_of done left) ≡ Some (rest_of done' left') → left ≡ left'
left_is left left' done done' e = ap left_in e

closed_end-count : (widths : List ℕ) (k : ℕ) → k ≤ length widths → closed_end (drop k widths) ≡ (if k == length widths then CutShort else Unlawful)
closed_end-count widths k within =
    elim (eqb_tells k (length widths)) [
      | inl e ↦ rw (e.0, drop_all k widths (omega (arith, e.1))) refl
      | inr e ↦ rw e.0 (sym (closed_end-some widths k (omega (arith, e.1))))
    ]

-- a line that the limit cuts
cut_end-by : (widths : List ℕ) (k : ℕ) (done left : List ℕ) (phase : Phase) (o : Option (List ℕ)) (c : Bool)
    → closed_of (at_phase done left phase) ≡ option_map (λ ns. rest_of ns (drop k widths)) o → Agrees c phase → IfSome o (λ ns. k ≤ length widths)
    → cut_end (at_phase done left phase) ≡ (if is_some o && (not c || k == length widths) then CutShort else Unlawful)
unfolding cut_end
cut_end-by widths k done left Phase.Gap None c e a h = absurd (none_or_some _ (sym e))
cut_end-by widths k done left Phase.Gap (Some ns) c e a h = rw a refl
cut_end-by widths k done left (Phase.Number n) None c e a h = absurd (none_or_some _ (sym e))
cut_end-by widths k done left (Phase.Number n) (Some ns) c e a h = rw a refl
cut_end-by widths k done left Phase.Closed None c e a h = absurd (none_or_some _ (sym e))
cut_end-by widths k done left Phase.Closed (Some ns) c e a h = rw (a, left_is left (drop k widths) done ns e) (closed_end-count widths k h)
cut_end-by widths k done left Phase.Wrong None c e a h = refl
cut_end-by widths k done left Phase.Wrong (Some ns) c e a h = absurd (none_or_some _ e)

-- a line that the limit cuts
pub cut_end-taken : (widths bytes : List ℕ) → cut_end (scanned (fresh widths) bytes) ≡ taken widths (CutOff bytes)
cut_end-taken widths bytes =
    let s = scanned (fresh widths) bytes in
    let words = words_of (without_return bytes) in
    cut_end-by widths (length words) s.done s.left s.phase (numbers_of widths words) (has_return bytes) (scanned-closed widths bytes) (agrees bytes (fresh widths) tt) (no_more (numbers_of widths words) (numbers_of-fits widths words))
  where
    no_more : (o : Option (List ℕ)) → IfSome o (Fits widths (words_of (without_return bytes))) → IfSome o (λ ns. length (words_of (without_return bytes)) ≤ length widths)
    no_more None h = tt
    no_more (Some ns) h = h.within
