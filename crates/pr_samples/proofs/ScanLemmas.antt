-- One byte of a line.
use Rattle.std.proofs.Common.{◌≡◌, ℕ, suc, ap₂, ◌+◌, ◌^◌, ◌<◌, ◌≤◌, ◌==◌, false, List, [], ◌∷◌, ◌++◌, take, drop, length, length-drop, get_or, drop-drop, refl, ap, sym, ◌∙◌, arith, add-one, drop-cons}
use Rattle.std.proofs.Math.Nat.{pow-le-pow_right}
use Rattle.std.proofs.lemmas.List.{take_more_set, length-take}
use Rattle.std.proofs.lemmas.Bool.Decides.{nat_tests}
use Rattle.std.specs.Prelude.{slice_set, slice_get, Some}
use Rattle.std.proofs.lemmas.Option.{get_or_from_slice_get}
use Rattle.pr_samples.specs.declared.scan.Phase.{Phase}
use Rattle.pr_samples.specs.declared.scan.Cursor.{Cursor}
use Rattle.pr_samples.specs.declared.scan.Met.{Met}
use Rattle.pr_samples.specs.Scan.{Scan, step, first_line, scan_of, finished, whole_end, taken_numbers, closed_end, fresh, taken_of, First, Found, first_or}
use Rattle.pr_samples.specs.Fed.{Unlawful}

-- a width of at most 128 bits
pub pow_width : (w : ℕ) → w ≤ 128 → 2 ^ w ≤ 2 ^ 128
pow_width w h = pow-le-pow_right (omega arith) h

pub first_line-step : (widths : List ℕ) (s : Scan) (passed b : ℕ) (bytes : List ℕ) → (b == 10) ≡ false → first_line widths s passed (b ∷ bytes) ≡ first_line widths (step s b) passed bytes
unfolding first_line
first_line-step widths s passed b bytes h = rw h refl

-- the byte at a place is read
pub first_line-drop : (widths : List ℕ) (s : Scan) (passed i b : ℕ) (bytes more : List ℕ) → i < length bytes → b ≡ get_or bytes i 0 → (b ≡ 10 → ⊥)
    → first_line widths s passed (drop i bytes ++ more) ≡ first_line widths (step s b) passed (drop (i + 1) bytes ++ more)
first_line-drop widths s passed i b bytes more h is other =
    let at : drop i bytes ≡ b ∷ drop (i + 1) bytes = rw (add-one, is) (drop-cons bytes i 0 h) in
    ap (λ rest. first_line widths s passed (rest ++ more)) at ∙ first_line-step widths s passed b (drop (i + 1) bytes ++ more) (grind (arith, nat_tests))

-- a number is put down
pub scan_of-finished : (widths numbers : List ℕ) (cursor : Cursor) (phase : Phase) (n : ℕ) → cursor.phase ≡ Phase.Number n → cursor.done < length numbers
    → scan_of widths (slice_set numbers cursor.done n) (record { done = cursor.done + 1; phase = phase }) ≡ finished (scan_of widths numbers cursor) phase
scan_of-finished widths numbers cursor phase n is room =
    rw (is, take_more_set numbers cursor.done n room, drop-drop 1 cursor.done widths) refl

-- the numbers of some of the inputs
pub taken_numbers-some : (numbers widths : List ℕ) (done : ℕ) → length numbers ≡ length widths → done < length widths → 0 < done → Unlawful ≡ taken_numbers (take done numbers) (drop done widths)
taken_numbers-some numbers widths done same less some = rest (take done numbers) (drop done widths) (simp length-take (omega arith)) (simp length-drop (omega arith))
  where
    rest : (ns ws : List ℕ) → 0 < length ns → 0 < length ws → Unlawful ≡ taken_numbers ns ws
    rest [] ws h k = absurd (omega arith)
    rest (n ∷ ns) [] h k = absurd (omega arith)
    rest (n ∷ ns) (w ∷ ws) h k = refl

-- a line that the limit cuts after its CR, with inputs left
pub closed_end-some : (widths : List ℕ) (done : ℕ) → done < length widths → Unlawful ≡ closed_end (drop done widths)
closed_end-some widths done less = rest (drop done widths) (simp length-drop (omega arith))
  where
    rest : (ws : List ℕ) → 0 < length ws → Unlawful ≡ closed_end ws
    rest [] h = absurd (omega arith)
    rest (w ∷ ws) h = refl

-- a line ends in a number
pub whole_end-number : (widths numbers : List ℕ) (cursor : Cursor) (n : ℕ) → cursor.phase ≡ Phase.Number n → cursor.done < length numbers
    → taken_numbers (take (cursor.done + 1) (slice_set numbers cursor.done n)) (drop (cursor.done + 1) widths) ≡ whole_end (scan_of widths numbers cursor)
unfolding whole_end
whole_end-number widths numbers cursor n is room =
    rw (is, take_more_set numbers cursor.done n room, drop-drop 1 cursor.done widths) refl

pub first_line-end : (widths : List ℕ) (s : Scan) (passed : ℕ) (rest : List ℕ)
    → first_line widths s passed (10 ∷ rest) ≡ first_or (whole_end s) (passed + 1) rest (first_line widths (fresh widths) (passed + 1) rest)
unfolding first_line
first_line-end widths s passed rest = refl

-- a line that was read up to its LF, from a place on
pub line_over : (widths : List ℕ) (s read : Scan) (passed used count : ℕ) (bytes more : List ℕ)
    → count < length (drop used bytes) → slice_get (drop used bytes) count ≡ Some 10
    → first_line widths read passed (drop count (drop used bytes) ++ more) ≡ first_line widths s passed (drop used bytes ++ more)
    → first_line widths s passed (drop used bytes ++ more)
    ≡ first_or (whole_end read) (passed + 1) (drop (used + count + 1) bytes ++ more) (first_line widths (fresh widths) (passed + 1) (drop (used + count + 1) bytes ++ more))
line_over widths s read passed used count bytes more within lf same =
    let place : used + suc count ≡ used + count + 1 = omega arith in
    let rest : drop (suc count) (drop used bytes) ≡ drop (used + count + 1) bytes = drop-drop (suc count) used bytes ∙ ap (λ k. drop k bytes) place in
    let at : drop count (drop used bytes) ≡ 10 ∷ drop (used + count + 1) bytes =
    drop-cons (drop used bytes) count 0 within ∙ ap₂ (λ b bs. b ∷ bs) (get_or_from_slice_get (drop used bytes) count 10 0 lf) rest in
    sym same ∙ ap (λ bs. first_line widths read passed (bs ++ more)) at ∙ first_line-end widths read passed (drop (used + count + 1) bytes ++ more)

-- a line that is met
pub first_or-met : (met : Met) (numbers : List ℕ) (number : ℕ) (rest : List ℕ) (after : First) → (met ≡ Met.Skipped → ⊥) → first_or (taken_of met numbers) number rest after ≡ Found (taken_of met numbers) number rest
first_or-met Met.Skipped numbers number rest after h = absurd (h refl)
first_or-met Met.Lawful numbers number rest after h = refl
first_or-met Met.Unlawful numbers number rest after h = refl
first_or-met Met.CutShort numbers number rest after h = refl
