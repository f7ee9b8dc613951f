-- The line of a result, piece by piece.
use Rattle.std.proofs.Common.{◌≡◌, ℕ, suc, ◌+◌, ◌*◌, ◌^◌, ◌%◌, ◌<◌, ◌≤◌, Bool, true, false, nat_lt, List, [], ◌∷◌, ◌++◌, map, take, drop, length, get_or, add-one, drop-cons, drop-drop, append_assoc, append-nil, refl, ap, sym, ◌∙◌, arith, if◌then◌else◌, take_all, lit<, mod-eq_of_lt}
use Rattle.std.specs.Prelude.{decimal, min, sum_by, Result, Ok, Err, OnOk, OnErr}
use Rattle.std.proofs.Math.Nat.{pow-le-pow_right, mul-le-mul_left}
use Rattle.std.specs.List.{flat_map, join_with_byte}
use Rattle.std.proofs.lemmas.List.{take_min, take-append-le}
use Rattle.std.proofs.lemmas.Bool.Decides.{nat_tests}
use Rattle.std.proofs.Math.Seq.{take-append-add}
use Rattle.pr_base.specs.Numbers.{slices_of, number_of}
use Rattle.pr_base.specs.Rows.{row_numbers, row_line}
use Rattle.pr_base.proofs.BytesLemmas.{pow_bytes}
use Rattle.pr_edge.specs.Tape.{Tape, Appends, AppendsFront}
use Rattle.pr_edge.proofs.Appending.{Appends-append}
use Rattle.pr_samples.specs.Results.{result_line, rest_line, IsPut}

-- nothing is put yet
pub put_none : (old : Tape) (line : List ℕ) → Appends old old [] → IsPut old old [] line line
put_none old line h = record { written = []; done = h; whole = refl }

-- the next bytes come into the buffer
pub put_text : (old now : Tape) (text piece rest line : List ℕ) → IsPut old now text (piece ++ rest) line → IsPut old now (text ++ piece) rest line
put_text old now text piece rest line h = record {
  written = h.written;
  done = h.done;
  whole = ap (λ xs. h.written ++ xs) (append_assoc text piece rest) ∙ h.whole;
}

-- the buffer is written
pub put_written : (old now new : Tape) (text rest line : List ℕ) → IsPut old now text rest line → Appends now new text → IsPut old new [] rest line
put_written old now new text rest line h more = record {
  written = h.written ++ text;
  done = Appends-append old now new h.written text h.done more;
  whole = append_assoc h.written text rest ∙ h.whole;
}

-- the last bytes are written
pub put_all : (old now new : Tape) (text line : List ℕ) → IsPut old now text [] line → Appends now new text → Appends old new line
put_all old now new text line h more =
    let whole : h.written ++ text ≡ line = ap (λ xs. h.written ++ xs) (sym (append-nil text)) ∙ h.whole in
    rw (← whole) (Appends-append old now new h.written text h.done more)

-- a write fails
pub put_front : (old now new : Tape) (text rest line : List ℕ) → IsPut old now text rest line → AppendsFront now new text → AppendsFront old new line
put_front old now new text rest line h front =
    let k = min front.0 (length text) in
    let first : take k (text ++ rest) ≡ take front.0 text = take-append-le k text rest (omega arith) ∙ take_min front.0 text in
    let all : take (length h.written + k) line ≡ h.written ++ take front.0 text =
    ap (take (length h.written + k)) (sym h.whole) ∙ take-append-add h.written (text ++ rest) k ∙ ap (λ xs. h.written ++ xs) first in
    (length h.written + k, rw all (Appends-append old now new h.written (take front.0 text) h.done front.1))

join-flat : (x : List ℕ) (numbers : List ℕ) → join_with_byte 32 (x ∷ map decimal numbers) ≡ x ++ flat_map (λ n. 32 ∷ decimal n) numbers
join-flat x [] = sym (append-nil x)
join-flat x (n ∷ numbers) = ap (λ xs. x ++ (32 ∷ xs)) (join-flat (decimal n) numbers)

-- the next number of a line
pub rest_line-cons : (begun : Bool) (n : ℕ) (numbers : List ℕ) → rest_line begun (n ∷ numbers) ≡ (if begun then 32 ∷ decimal n else decimal n) ++ rest_line true numbers
rest_line-cons true n numbers = append_assoc (32 ∷ decimal n) (flat_map (λ n. 32 ∷ decimal n) numbers) (10 ∷ [])
rest_line-cons false n numbers = ap (λ xs. xs ++ 10 ∷ []) (join-flat (decimal n) numbers) ∙ append_assoc (decimal n) (flat_map (λ n. 32 ∷ decimal n) numbers) (10 ∷ [])

-- the line of a result of one output
pub short_line : (widths bytes : List ℕ) → length widths ≡ 1 → length bytes ≡ sum_by slices_of widths → result_line widths bytes ≡ row_line (number_of bytes ∷ [])
short_line [] bytes one long = absurd (omega arith)
short_line (w ∷ []) bytes one long = ap (λ bs. row_line (number_of bs ∷ [])) (take_all (slices_of w) bytes (omega arith))
short_line (w ∷ v ∷ widths) bytes one long = absurd (omega arith)

-- a byte of at most eight is moved up to its place, and added
pub moved_short : (n i b : ℕ) → i < 8 → b < 256 → n < 256 ^ i → (b * 2 ^ (8 * i) % 2 ^ 64 ≡ 256 ^ i * b) × (n + 256 ^ i * b < 256 ^ (i + 1)) × (n + 256 ^ i * b < 2 ^ 64)
moved_short n i b low byte small =
    let more : 256 ^ (i + 1) ≡ 256 ^ i * 256 = rw add-one (omega arith) in
    let b_le : b ≤ 255 = omega arith in
    let product : 256 ^ i * b ≤ 256 ^ i * 255 = mul-le-mul_left (256 ^ i) b_le in
    let i_le : i + 1 ≤ 8 = omega arith in
    let fits : 256 ^ (i + 1) ≤ 256 ^ 8 = pow-le-pow_right (lit< tt) i_le in
    let same : b * 2 ^ (8 * i) ≡ 256 ^ i * b = rw (← pow_bytes i) (omega arith) in
    (ap (λ x. x % 2 ^ 64) same ∙ mod-eq_of_lt (omega arith), omega arith, omega arith)

-- the number of the next output
pub row_numbers-next : (widths bytes : List ℕ) (i at : ℕ) → i < length widths
    → row_numbers (drop i widths) (drop at bytes) ≡ number_of (take (slices_of (get_or widths i 0)) (drop at bytes)) ∷ row_numbers (drop (i + 1) widths) (drop (at + slices_of (get_or widths i 0)) bytes)
row_numbers-next widths bytes i at h =
    let w = get_or widths i 0 in
    ap (λ ws. row_numbers ws (drop at bytes)) (drop-cons widths i 0 h)
    ∙ ap (λ bs. number_of (take (slices_of w) (drop at bytes)) ∷ row_numbers (drop (suc i) widths) bs) (drop-drop (slices_of w) at bytes)
    ∙ ap (λ k. number_of (take (slices_of w) (drop at bytes)) ∷ row_numbers (drop k widths) (drop (at + slices_of w) bytes)) (sym (add-one i))

pub begun_after : (i : ℕ) → nat_lt 0 (i + 1) ≡ true
begun_after i = grind (arith, nat_tests)

-- no numbers are left
pub rest_line-end : (begun : Bool) → rest_line begun [] ≡ 10 ∷ []
rest_line-end true = refl
rest_line-end false = refl

pub on_ok : {T E : Type 0} (r : Result T E) (P Q : Type 0) → (P → Q) → OnOk r P → OnOk r Q
on_ok (Ok x) P Q f h = f h
on_ok (Err e) P Q f h = tt

pub on_err : {T E : Type 0} (r : Result T E) (P Q : Type 0) → (P → Q) → OnErr r P → OnErr r Q
on_err (Ok x) P Q f h = tt
on_err (Err e) P Q f h = f h
