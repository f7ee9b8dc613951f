-- The generated lines as samples.
use Rattle.std.proofs.Common.{◌≡◌, ℕ, zero, suc, ◌+◌, ◌*◌, ◌^◌, ◌<◌, ◌≤◌, nat_lt, false, List, [], ◌∷◌, map, length, take_all, add-one, refl, ap, sym, ◌∙◌, arith, append_assoc}
use Rattle.std.specs.Prelude.{decimal}
use Rattle.std.specs.List.{flat_map, range_with_len}
use Rattle.std.proofs.Math.Nat.{mod-lt}
use Rattle.std.proofs.lemmas.Bool.Decides.{nat_tests}
use Rattle.std.proofs.lemmas.Fmt.{length-decimal-le}
use Rattle.std.proofs.lemmas.List.{length-append}
use Rattle.std.proofs.lemmas.List.Concat.{flat_map-cons}
use Rattle.std.proofs.lemmas.List.FromFn.{length-range_with_len}
use Rattle.pr_gen.specs.Texts.{numbers_from, sample_line, sample_lines}
use Rattle.pr_run.specs.Turns.{Going}
use Rattle.pr_samples.specs.declared.tails.Tail.{Tail}
use Rattle.pr_samples.specs.Lines.{Whole}
use Rattle.pr_samples.specs.Fed.{taken, Fed, End, before, line_and, fed_text, fed_of}
use Rattle.pr_tool_modes.specs.Generations.{Generation, HasGenerated, rows_for}
use Rattle.pr_tool_modes.specs.Samples.{fed_at_most, fed_in}
use Rattle.pr_tool_laws.specs.Generated.{sample_number, sample_row, sample_rows, all_fed}
use Rattle.pr_tool_laws.proofs.SampleLines.{number_taken, number_taken_or_bad, fed_text-number, fed_text-none, line_and-end}

-- ---- one line
number_low : (j : ℕ) → sample_number j < 2 ^ 16
number_low j = mod-lt (40503 * j + 12345) (omega arith)

number_fits : (j : ℕ) → sample_number j < 2 ^ 64
number_fits j = omega (arith, number_low j)

fed_text-line : (widths : List ℕ) (most passed : ℕ) (tail : Tail) (j : ℕ) (js : List ℕ)
    → fed_text widths most passed tail (flat_map sample_line (j ∷ js))
    ≡ line_and (taken widths (Whole (decimal (sample_number j)))) (passed + 1) most (λ left. fed_text widths left (passed + 1) tail (flat_map sample_line js))
fed_text-line widths most passed tail j js =
    ap (fed_text widths most passed tail) (flat_map-cons sample_line j js ∙ append_assoc (decimal (sample_number j)) (10 ∷ []) (flat_map sample_line js))
    ∙ fed_text-number widths most passed tail (sample_number j) (flat_map sample_line js) (number_fits j)

-- ---- all lines
lines_read : (js : List ℕ) (most passed : ℕ) → length js ≤ most
    → fed_text (16 ∷ []) most passed Tail.Ended (flat_map sample_line js) ≡ record { samples = map sample_row js; ending = End }
lines_read [] most passed h = fed_text-none (16 ∷ []) most passed
lines_read (j ∷ js) zero passed h = absurd (omega arith)
lines_read (j ∷ js) (suc most) passed h =
    fed_text-line (16 ∷ []) (suc most) passed Tail.Ended j js
    ∙ ap (λ t. line_and t (passed + 1) (suc most) (λ left. fed_text (16 ∷ []) left (passed + 1) Tail.Ended (flat_map sample_line js))) (number_taken 16 (sample_number j) (number_fits j) (number_low j))
    ∙ ap (before (sample_row j ∷ [])) (lines_read js most (passed + 1) (omega arith))

-- whatever the inputs are
lines_ended : (widths js : List ℕ) (most passed : ℕ) → (fed_text widths most passed Tail.Ended (flat_map sample_line js)).ending ≡ End
    → (fed_text widths most passed Tail.Ended (flat_map sample_line js)).samples ≡ map sample_row js
lines_ended widths [] most passed end = ap (λ (f : Fed). f.samples) (fed_text-none widths most passed)
lines_ended widths (j ∷ js) most passed end =
    let line = fed_text-line widths most passed Tail.Ended j js in
    ap (λ (f : Fed). f.samples) line
    ∙ line_and-end (taken widths (Whole (decimal (sample_number j)))) (sample_row j) (map sample_row js) (passed + 1) most (λ left. fed_text widths left (passed + 1) Tail.Ended (flat_map sample_line js))
    (number_taken_or_bad widths (sample_number j) (number_fits j)) (ap (λ (f : Fed). f.ending) (sym line) ∙ end) (λ left. lines_ended widths js left (passed + 1))

-- ---- their bytes
length-line : (j : ℕ) → length (sample_line j) ≤ 6
length-line j =
    let few = length-decimal-le 5 (sample_number j) (omega arith) (omega (arith, number_low j)) (number_fits j) in
    omega (arith, few, length-append (decimal (sample_number j)) (10 ∷ []))

length-lines : (js : List ℕ) → length (flat_map sample_line js) ≤ 6 * length js
length-lines [] = omega arith
length-lines (j ∷ js) =
    omega (arith, length-line j, length-lines js, ap (λ (text : List ℕ). length text) (flat_map-cons sample_line j js), length-append (sample_line j) (flat_map sample_line js))

numbers_from-range : (first count : ℕ) → numbers_from first count ≡ range_with_len first count
unfolding numbers_from
numbers_from-range first zero = refl
numbers_from-range first (suc count) = ap (λ ns. first ∷ ns) (numbers_from-range (suc first) count ∙ ap (λ n. range_with_len n count) (sym (add-one first)))

length-numbers_from : (first count : ℕ) → length (numbers_from first count) ≡ count
length-numbers_from first count = ap (λ (ns : List ℕ). length ns) (numbers_from-range first count) ∙ length-range_with_len first count

-- a short file is read whole
fed_whole : (widths : List ℕ) (limit most : ℕ) (file : List ℕ) → length file ≤ limit → fed_of widths limit most file ≡ fed_text widths most 0 Tail.Ended file
fed_whole widths limit most file short =
    let below : nat_lt limit (length file) ≡ false = grind (arith, nat_tests) in
    rw (below, take_all limit file short) refl

module _ (count : ℕ) (few : count ≤ 2 ^ 40) where
  fed_lines-whole : (widths : List ℕ) → fed_in widths (sample_lines count) ≡ fed_text widths (2 ^ 40) 0 Tail.Ended (flat_map sample_line (numbers_from 0 count))
  unfolding sample_lines fed_at_most
  fed_lines-whole widths =
      fed_whole widths (2 ^ 44) (2 ^ 40) (flat_map sample_line (numbers_from 0 count)) (omega (arith, few, length-lines (numbers_from 0 count), length-numbers_from 0 count))

  same_rows : map sample_row (numbers_from 0 count) ≡ sample_rows count
  same_rows = ap (map sample_row) (numbers_from-range 0 count)

  -- an input of 16 bits
  pub all_read : fed_in (16 ∷ []) (sample_lines count) ≡ all_fed count
  all_read =
      fed_lines-whole (16 ∷ []) ∙ lines_read (numbers_from 0 count) (2 ^ 40) 0 (omega (arith, few, length-numbers_from 0 count))
      ∙ ap (λ (rows : List (List ℕ)). record { samples = rows; ending = End }) same_rows

  -- whatever the inputs are
  pub all_ended : (widths : List ℕ) → (fed_in widths (sample_lines count)).ending ≡ End → (fed_in widths (sample_lines count)).samples ≡ sample_rows count
  all_ended widths end =
      let whole = fed_lines-whole widths in
      ap (λ (f : Fed). f.samples) whole ∙ lines_ended widths (numbers_from 0 count) (2 ^ 40) 0 (ap (λ (f : Fed). f.ending) (sym whole) ∙ end) ∙ same_rows

-- the samples of a run that came to its end
pub run_rows : (N P : ℕ) (g : Generation) (put : List ℕ → Type 0) (machine : Going N P) (h : HasGenerated g put machine) → rows_for h.conf ≡ sample_rows 1000
run_rows N P g put machine h = all_ended 1000 (omega arith) h.conf.inputs h.ends
