-- What holds of the samples of a file, and how they end.
use Rattle.std.proofs.Common.{◌≡◌, ◌+◌, ◌≤◌, ◌<◌, ℕ, zero, suc, Bool, true, false, cond, List, [], ◌∷◌, length, nat_lt, refl, ap, subst, arith}
use Rattle.std.specs.Prelude.{All, ⊤}
use Rattle.std.proofs.lemmas.Bool.Decides.{nat_tests}
use Rattle.pr_base.specs.declared.caps.Cap.{Cap}
use Rattle.pr_base.specs.Rows.{IsRow}
use Rattle.pr_samples.specs.Lines.{Line}
use Rattle.pr_samples.specs.Fed.{Taken, Skipped, Lawful, Unlawful, CutShort, taken, Fed, Ending, End, BadSample, Limit, ending_by, line_and, fed_lines, fed_text}
use Rattle.pr_samples.proofs.SampleLaws.{fed_lines-rows}
use Rattle.pr_tool_modes.specs.Samples.{fed_at_most, fed_in, fed_whole}
use Rattle.pr_tool_modes.proofs.ReasonLemmas.{is_of_samples}

-- the samples of a file are lawful
pub fed_rows : (most : ℕ) (widths file : List ℕ) → All (IsRow widths) (fed_at_most most widths file).samples
unfolding fed_at_most fed_text
fed_rows most widths file = fed_lines-rows widths _ most 0

-- ---- limits
-- where samples end by a limit, it is one of these
abbrev IsEnding : Ending → Type 0
IsEnding End = ⊤
IsEnding (BadSample line) = ⊤
IsEnding (Limit cap) = is_of_samples cap ≡ true

line_and-ending : (t : Taken) (number most : ℕ) (after : ℕ → Fed) → ((left : ℕ) → IsEnding (after left).ending) → IsEnding (line_and t number most after).ending
line_and-ending Skipped number most after is = is most
line_and-ending (Lawful ns) number zero after is = refl
line_and-ending (Lawful ns) number (suc most) after is = is most
line_and-ending Unlawful number most after is = tt
line_and-ending CutShort number most after is = refl

fed_lines-ending : (widths : List ℕ) (lines : List Line) (most passed : ℕ) → IsEnding (fed_lines widths most passed lines).ending
unfolding fed_lines
fed_lines-ending widths [] most passed = tt
fed_lines-ending widths (line ∷ lines) most passed = line_and-ending (taken widths line) (passed + 1) most _ (λ left. fed_lines-ending widths lines left (passed + 1))

fed_ending : (most : ℕ) (widths file : List ℕ) → IsEnding (fed_at_most most widths file).ending
unfolding fed_at_most fed_text
fed_ending most widths file = fed_lines-ending widths _ most 0

pub fed_limit : (most : ℕ) (widths file : List ℕ) (cap : Cap) → (fed_at_most most widths file).ending ≡ Limit cap → is_of_samples cap ≡ true
fed_limit most widths file cap ends = subst IsEnding ends (fed_ending most widths file)

-- ---- files that are read whole
pub short_fed : (widths file : List ℕ) → length file ≤ 16777216 → fed_whole widths file ≡ fed_in widths file
short_fed widths file short =
    let test : nat_lt 16777216 (length file) ≡ false = grind (arith, nat_tests) in
    ap (λ (b : Bool). cond b (ending_by (Limit Cap.SampleBytes)) (fed_in widths file)) test

pub long_fed : (widths file : List ℕ) → 16777216 < length file → fed_whole widths file ≡ ending_by (Limit Cap.SampleBytes)
long_fed widths file long =
    let test : nat_lt 16777216 (length file) ≡ true = grind (arith, nat_tests) in
    ap (λ (b : Bool). cond b (ending_by (Limit Cap.SampleBytes)) (fed_in widths file)) test
