-- Digits that are read at once.
use Rattle.std.proofs.Common.{◌≡◌, ℕ, suc, ◌+◌, ◌-◌, ◌*◌, ◌^◌, ◌<◌, ◌≤◌, ◌==◌, nat_lt, true, false, List, [], ◌∷◌, ◌++◌, drop, take, length, get_or, drop-cons, append_assoc, add-one, mod-eq_of_lt, refl, ap, sym, ◌∙◌, arith, ◌%◌}
use Rattle.std.proofs.Math.Nat.{pow-le-pow_right, pow-succ'}
use Rattle.std.specs.List.{list_all}
use Rattle.std.proofs.lemmas.List.{take_more, take-append-drop, length-take}
use Rattle.std.proofs.lemmas.Bool.{and_parts}
use Rattle.std.proofs.lemmas.Bool.Decides.{nat_tests}
use Rattle.pr_samples.specs.declared.scan.Phase.{Phase}
use Rattle.pr_samples.specs.declared.scan.Cursor.{Cursor}
use Rattle.pr_samples.specs.Fed.{is_digit, value_after}
use Rattle.pr_samples.specs.Scan.{Scan, step, first_line, scan_of}
use Rattle.pr_samples.proofs.ScanLemmas.{first_line-step}
use Rattle.pr_samples.proofs.WordLemmas.{scanned, at_phase, step-digit, value_after-ge}

value_after-push : (n : ℕ) (digits : List ℕ) (b : ℕ) → value_after n (digits ++ b ∷ []) ≡ 10 * value_after n digits + (b - 48)
value_after-push n [] b = refl
value_after-push n (d ∷ digits) b = value_after-push (10 * n + (d - 48)) digits b

-- a digit more at the front
pub value_after-more : (bytes : List ℕ) (i : ℕ) → i < length bytes → value_after 0 (take (i + 1) bytes) ≡ 10 * value_after 0 (take i bytes) + (get_or bytes i 0 - 48)
value_after-more bytes i h = ap (value_after 0) (take_more bytes i 0 h) ∙ value_after-push 0 (take i bytes) (get_or bytes i 0)

-- digits after a number that is begun
scanned-digits : (done : List ℕ) (w : ℕ) (left : List ℕ) (n : ℕ) (digits : List ℕ) → list_all is_digit digits ≡ true → value_after n digits < 2 ^ w
    → scanned (at_phase done (w ∷ left) (Phase.Number n)) digits ≡ at_phase done (w ∷ left) (Phase.Number (value_after n digits))
scanned-digits done w left n [] d h = refl
scanned-digits done w left n (b ∷ digits) d h =
    let parts = and_parts (is_digit b) (list_all is_digit digits) d in
    let more = value_after-ge (10 * n + (b - 48)) digits in
    let below : nat_lt (10 * n + (b - 48)) (2 ^ w) ≡ true = grind (arith, nat_tests) in
    ap (λ s. scanned s digits) (step-digit (at_phase done (w ∷ left) (Phase.Number n)) b parts.0 ∙ rw below refl)
    ∙ scanned-digits done w left (10 * n + (b - 48)) digits parts.1 h

-- digits after a gap
scanned-number : (done : List ℕ) (w : ℕ) (left digits : List ℕ) → 0 < length digits → list_all is_digit digits ≡ true → value_after 0 digits < 2 ^ w
    → scanned (at_phase done (w ∷ left) Phase.Gap) digits ≡ at_phase done (w ∷ left) (Phase.Number (value_after 0 digits))
scanned-number done w left [] some d h = absurd (omega arith)
scanned-number done w left (b ∷ digits) some d h =
    let parts = and_parts (is_digit b) (list_all is_digit digits) d in
    let more = value_after-ge (10 * 0 + (b - 48)) digits in
    let same : 10 * 0 + (b - 48) ≡ b - 48 = omega arith in
    let below : nat_lt (b - 48) (2 ^ w) ≡ true = grind (arith, nat_tests) in
    ap (λ s. scanned s digits) (step-digit (at_phase done (w ∷ left) Phase.Gap) b parts.0 ∙ rw below refl)
    ∙ ap (λ n. scanned (at_phase done (w ∷ left) (Phase.Number n)) digits) (sym same)
    ∙ scanned-digits done w left (10 * 0 + (b - 48)) digits parts.1 h

digit_no_end : (b : ℕ) → is_digit b ≡ true → (b == 10) ≡ false
digit_no_end b d = grind (arith, nat_tests)

first_line-digits : (widths : List ℕ) (s : Scan) (passed : ℕ) (digits more : List ℕ) → list_all is_digit digits ≡ true
    → first_line widths s passed (digits ++ more) ≡ first_line widths (scanned s digits) passed more
first_line-digits widths s passed [] more d = refl
first_line-digits widths s passed (b ∷ digits) more d =
    let parts = and_parts (is_digit b) (list_all is_digit digits) d in
    first_line-step widths s passed b (digits ++ more) (digit_no_end b parts.0) ∙ first_line-digits widths (step s b) passed digits more parts.1

-- the digits of a number that is one of the next input are read
pub first_line-number : (widths numbers : List ℕ) (cursor : Cursor) (passed count : ℕ) (rest more : List ℕ)
    → cursor.phase ≡ Phase.Gap → cursor.done < length widths → 0 < count → count ≤ length rest → list_all is_digit (take count rest) ≡ true
    → value_after 0 (take count rest) < 2 ^ get_or widths cursor.done 0
    → first_line widths (scan_of widths numbers (record { done = cursor.done; phase = Phase.Number (value_after 0 (take count rest)) })) passed (drop count rest ++ more)
    ≡ first_line widths (scan_of widths numbers cursor) passed (rest ++ more)
first_line-number widths numbers cursor passed count rest more gap room some within digits low =
    let front = take count rest in
    let done = take cursor.done numbers in
    let w = get_or widths cursor.done 0 in
    let next : drop cursor.done widths ≡ w ∷ drop (suc cursor.done) widths = drop-cons widths cursor.done 0 room in
    let number = scanned-number done w (drop (suc cursor.done) widths) front (simp length-take (omega arith)) digits low in
    let whole : rest ++ more ≡ front ++ (drop count rest ++ more) = ap (λ bs. bs ++ more) (sym (take-append-drop count rest)) ∙ append_assoc front (drop count rest) more in
    sym
    (ap (first_line widths (scan_of widths numbers cursor) passed) whole
    ∙ first_line-digits widths (scan_of widths numbers cursor) passed front (drop count rest ++ more) digits
    ∙ ap (λ s. first_line widths s passed (drop count rest ++ more)) (rw (gap, next) number))

-- a number of at most 17 digits
pub low_front : (n i : ℕ) → n < 10 ^ i → i ≤ 17 → n < 10 ^ 17
low_front n i h few = let top : 10 ^ i ≤ 10 ^ 17 = pow-le-pow_right (omega arith) few in omega (arith, top)

pub low_more : (n digit i : ℕ) → n < 10 ^ i → digit ≤ 9 → 10 * n + digit < 10 ^ (i + 1)
low_more n digit i h nine = let more : 10 ^ (i + 1) ≡ 10 * 10 ^ i = rw add-one (pow-succ' 10 i) in omega (arith, more)

pub low_width : (n bits w : ℕ) → bits ≤ w → bits ≤ 63 → n < 1 * 2 ^ bits % 18446744073709551616 → n < 2 ^ w
low_width n bits w within few h =
    let top : 2 ^ bits ≤ 2 ^ 63 = pow-le-pow_right (omega arith) few in
    let wide : 2 ^ bits ≤ 2 ^ w = pow-le-pow_right (omega arith) within in
    let same : 1 * 2 ^ bits % 18446744073709551616 ≡ 1 * 2 ^ bits = mod-eq_of_lt (omega (arith, top)) in
    omega (arith, wide, same, h)
