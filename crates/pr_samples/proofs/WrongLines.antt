-- A line that is bad before it is over.
use Rattle.std.proofs.Common.{◌≡◌, ◌≢◌, ℕ, ◌+◌, ◌-◌, ◌==◌, Bool, true, false, List, [], ◌∷◌, ◌++◌, take, drop, length, if◌then◌else◌, refl, ap, sym, subst, ◌∙◌}
use Rattle.std.specs.Prelude.{nat_lt}
use Rattle.pr_samples.specs.declared.tails.Tail.{Tail}
use Rattle.pr_samples.specs.declared.scan.Phase.{Phase}
use Rattle.pr_samples.specs.Fed.{Fed, BadSample, ending_by, before, fed_of, tail_of, is_digit, Unlawful}
use Rattle.pr_samples.specs.Lines.{is_blank}
use Rattle.pr_samples.specs.Scan.{Scan, step, First, Missing, Found, first_line, whole_end, cut_end}
use Rattle.pr_samples.specs.Feed.{first_fed, IsReading}
use Rattle.pr_samples.proofs.ReadingLemmas.{whole_file, over_front}

-- what stands at the end of bytes without a line
phase_of : First → Phase
phase_of (Missing s passed) = s.phase
phase_of (Found taken number rest) = Phase.Gap

-- where no bytes are read, a line is as it was
pub nothing-read : (widths : List ℕ) (s t : Scan) (n m : ℕ) (xs ys : List ℕ) → xs ≡ [] → ys ≡ [] → first_line widths s n (xs ++ []) ≡ first_line widths t m (ys ++ []) → s.phase ≡ t.phase
unfolding first_line phase_of
nothing-read widths s t n m xs ys e f h = ap phase_of (ap (λ zs. first_line widths s n (zs ++ [])) (sym e) ∙ h ∙ ap (λ zs. first_line widths t m (zs ++ [])) f)

is_gap : Phase → Type 0
is_gap Phase.Gap = Unit
is_gap (Phase.Number n) = ⊥
is_gap Phase.Closed = ⊥
is_gap Phase.Wrong = ⊥

pub gap≢wrong : Phase.Gap ≢ Phase.Wrong
unfolding is_gap
gap≢wrong e = subst is_gap e tt

-- a line with these numbers that is bad
bad_line : List ℕ → List ℕ → Scan
bad_line done left = record { done = done; left = left; phase = Phase.Wrong }

-- no byte makes a bad line a good one
step-bad : (done left : List ℕ) (b : ℕ) → step (bad_line done left) b ≡ bad_line done left
unfolding step bad_line
step-bad done left b = choose (is_digit b) (is_blank b) (b == 13) (bad_line done left)
  where
    choose : (p q r : Bool) (s : Scan) → (if p then s else (if q then s else (if r then s else s))) ≡ s
    choose true q r s = refl
    choose false true r s = refl
    choose false false true s = refl
    choose false false false s = refl

-- whatever follows a bad line, it ends the samples
bad_line-ends : (widths done left : List ℕ) (most passed : ℕ) (after : Tail) (more : List ℕ) → after ≢ Tail.Open
    → first_fed widths most after (first_line widths (bad_line done left) passed more) ≡ ending_by (BadSample (passed + 1))
unfolding first_line whole_end cut_end bad_line
bad_line-ends widths done left most passed Tail.Open [] closed = absurd (closed refl)
bad_line-ends widths done left most passed Tail.Ended [] closed = refl
bad_line-ends widths done left most passed Tail.Cut [] closed = refl
bad_line-ends widths done left most passed after (b ∷ more) closed =
    elim (b == 10) as (λ t. first_fed widths most after (if t then Found Unlawful (passed + 1) more else first_line widths (step (bad_line done left) b) passed more) ≡ ending_by (BadSample (passed + 1))) [
      | true ↦ refl
      | false ↦ ap (λ s. first_fed widths most after (first_line widths s passed more)) (step-bad done left b) ∙ bad_line-ends widths done left most passed after more closed
    ]

is_open : Tail → Type 0
is_open Tail.Open = Unit
is_open Tail.Ended = ⊥
is_open Tail.Cut = ⊥

closed-if : (b : Bool) → (if b then Tail.Cut else Tail.Ended) ≢ Tail.Open
unfolding is_open
closed-if true e = subst is_open (sym e) tt
closed-if false e = subst is_open (sym e) tt

tail_of-closed : (limit : ℕ) (file : List ℕ) → tail_of limit file ≢ Tail.Open
tail_of-closed limit file = closed-if (nat_lt limit (length file))

-- a feed whose line is bad has given all samples of its file
pub IsReading-bad : (widths : List ℕ) (limit most place given passed : ℕ) (tail : Tail) (s : Scan) (file : List ℕ)
    → IsReading widths limit most place given passed tail [] s file → s.phase ≡ Phase.Wrong
    → (given ≡ length (fed_of widths limit most file).samples) × ((fed_of widths limit most file).ending ≡ BadSample (passed + 1))
unfolding bad_line
IsReading-bad widths limit most place given passed tail s file h wrong =
    let samples = (fed_of widths limit most file).samples in
    let more = drop place (take limit file) in
    let bad : s ≡ bad_line s.done s.left = ap (λ p. record { done = s.done; left = s.left; phase = p }) wrong in
    let ends = ap (λ s. first_fed widths (most - given) (tail_of limit file) (first_line widths s passed more)) bad ∙ bad_line-ends widths s.done s.left (most - given) passed (tail_of limit file) more (tail_of-closed limit file) in
    let all = whole_file tail widths limit most place file _ h.within h.ends h.rest ∙ ap (before (take given samples)) ends in
    (over_front given samples (ap (λ (f : Fed). f.samples) all) h.counted, ap (λ (f : Fed). f.ending) all)
