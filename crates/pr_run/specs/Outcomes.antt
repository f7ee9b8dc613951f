-- What a turn came to.
use Rattle.std.specs.Prelude.{ℕ, Bool, true, false, List}
use Rattle.pr_edge.specs.Tape.{Tape}
use Rattle.pr_samples.specs.declared.feed.Feed.{Feed}
use Rattle.pr_run_script.specs.Script.{Run}
use Rattle.pr_run.specs.declared.turning.Turned.{Turned}
use Rattle.pr_edge.specs.Files.{View}
use Rattle.pr_run.specs.Setting.{Setting}
use Rattle.pr_run.specs.Turns.{Going, IsOn, IsDone, IsCut}

-- after a turn that came to this, a run that was the first of these for each list of samples, and is the second, is so
abbrev pub IsTurned : {N P : ℕ} → Setting → (List (List ℕ) → Run (List ℕ)) → (List (List ℕ) → Run (List ℕ))
    → Going N P → Feed → View → Tape → Turned → Type 0
IsTurned s first next m f now t (Turned.On last) = IsOn s next m f now t last
IsTurned s first next m f now t (Turned.Over last) = IsDone s first next m f now t last
IsTurned s first next m f now t Turned.Failed = IsCut s next m f now t

abbrev pub has_failed : Turned → Bool
has_failed (Turned.On last) = false
has_failed (Turned.Over last) = false
has_failed Turned.Failed = true

-- the cycles that were asked for and may have advanced
abbrev pub cycles_by : Turned → ℕ
cycles_by (Turned.On last) = 1
cycles_by (Turned.Over last) = 0
cycles_by Turned.Failed = 1
