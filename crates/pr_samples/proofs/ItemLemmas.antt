-- A line of short numbers, number by number.
use Rattle.std.proofs.Common.{◌≡◌, ℕ, ◌+◌, ◌<◌, List, [], ◌∷◌, ◌++◌, take, drop, length, get_or, drop-cons, take_all, add-one, refl, ap, ap₂, sym, ◌∙◌, arith}
use Rattle.std.specs.Prelude.{slice_set}
use Rattle.std.proofs.lemmas.List.{drop_all, length-set}
use Rattle.pr_samples.specs.declared.scan.Phase.{Phase}
use Rattle.pr_samples.specs.declared.scan.Cursor.{Cursor}
use Rattle.pr_samples.specs.Fed.{Taken, Lawful}
use Rattle.pr_samples.specs.Scan.{scan_of, step, first_line, first_or, Found, fresh, whole_end, taken_numbers}
use Rattle.pr_samples.specs.Items.{BeginsItem}
use Rattle.pr_samples.proofs.ScanLemmas.{first_line-drop, first_line-end, scan_of-finished, whole_end-number}
use Rattle.pr_samples.proofs.DigitLemmas.{first_line-number}
use Rattle.pr_samples.proofs.WordLemmas.{step-blank}

-- so many numbers are done, and a blank or nothing stands after them
abbrev pub before_number : ℕ → Cursor
before_number done = record { done = done; phase = Phase.Gap }

abbrev in_number : ℕ → ℕ → Cursor
in_number done n = record { done = done; phase = Phase.Number n }

-- the digits are read
digits_read : (widths numbers : List ℕ) (i stop n used passed : ℕ) (rest more : List ℕ) → i < length widths → (h : BeginsItem (get_or widths i 0) stop used n rest)
    → first_line widths (scan_of widths numbers (before_number i)) passed (rest ++ more) ≡ first_line widths (scan_of widths numbers (in_number i n)) passed (drop h.count rest ++ more)
digits_read widths numbers i stop n used passed rest more room h =
    let read = first_line-number widths numbers (before_number i) passed h.count rest more refl room h.some (omega (arith, h.within, h.whole)) h.digits (rw h.number at h.low) in
    sym read ∙ ap (λ v. first_line widths (scan_of widths numbers (in_number i v)) passed (drop h.count rest ++ more)) (sym h.number)

-- a number and a space are read
pub item_read : (widths numbers : List ℕ) (i n used passed : ℕ) (rest more : List ℕ) → i < length widths → i < length numbers → BeginsItem (get_or widths i 0) 32 used n rest
    → first_line widths (scan_of widths numbers (before_number i)) passed (rest ++ more)
    ≡ first_line widths (scan_of widths (slice_set numbers i n) (before_number (i + 1))) passed (drop used rest ++ more)
item_read widths numbers i n used passed rest more room in_numbers h =
    let s = scan_of widths numbers (in_number i n) in
    let space = first_line-drop widths s passed h.count 32 rest more (omega (arith, h.within, h.whole)) (sym h.end) (λ e. omega arith) in
    let after : step s 32 ≡ scan_of widths (slice_set numbers i n) (before_number (i + 1)) = step-blank s 32 refl refl ∙ sym (scan_of-finished widths numbers (in_number i n) Phase.Gap n refl in_numbers) in
    digits_read widths numbers i 32 n used passed rest more room h ∙ space
    ∙ ap₂ (λ t k. first_line widths t passed (drop k rest ++ more)) after (sym h.whole)

lawful_some : (ns : List ℕ) → 0 < length ns → taken_numbers ns [] ≡ Lawful ns
lawful_some [] h = absurd (omega arith)
lawful_some (n ∷ ns) h = refl

lawful_all : (ns widths : List ℕ) (k : ℕ) → 0 < k → length ns ≡ k → length widths ≡ k → taken_numbers (take k ns) (drop k widths) ≡ Lawful ns
lawful_all ns widths k some e f =
    let all : take k ns ≡ ns = take_all k ns (omega arith) in
    let none : drop k widths ≡ [] = drop_all k widths (omega arith) in
    rw (all, none) (lawful_some ns (omega arith))

-- the last number and the LF are read
pub last_read : (widths numbers : List ℕ) (i n used passed : ℕ) (rest more : List ℕ) → i + 1 ≡ length widths → length numbers ≡ length widths → BeginsItem (get_or widths i 0) 10 used n rest
    → first_line widths (scan_of widths numbers (before_number i)) passed (rest ++ more) ≡ Found (Lawful (slice_set numbers i n)) (passed + 1) (drop used rest ++ more)
last_read widths numbers i n used passed rest more last same h =
    let s = scan_of widths numbers (in_number i n) in
    let tail = drop (h.count + 1) rest in
    let at : drop h.count rest ≡ 10 ∷ tail = drop-cons rest h.count 0 (omega (arith, h.within, h.whole)) ∙ ap₂ (λ b k. b ∷ drop k rest) h.end (sym (add-one h.count)) in
    let in_numbers : i < length numbers = omega arith in
    let lawful : whole_end s ≡ Lawful (slice_set numbers i n) =
    sym (whole_end-number widths numbers (in_number i n) n refl in_numbers)
    ∙ lawful_all (slice_set numbers i n) widths (i + 1) (omega arith) (length-set numbers i n ∙ same ∙ sym last) (sym last) in
    digits_read widths numbers i 10 n used passed rest more (omega arith) h
    ∙ ap (λ bytes. first_line widths s passed (bytes ++ more)) at
    ∙ first_line-end widths s passed (tail ++ more)
    ∙ ap (λ (t : Taken). first_or t (passed + 1) (tail ++ more) (first_line widths (fresh widths) (passed + 1) (tail ++ more))) lawful
    ∙ ap (λ k. Found (Lawful (slice_set numbers i n)) (passed + 1) (drop k rest ++ more)) (sym h.whole)
