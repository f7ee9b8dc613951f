use Rattle.std.proofs.Common.{◌<◌, ◌≤◌, ◌-◌, ℕ}
use Rattle.std.specs.Vec.{vec_len}
use Rattle.pr_flat.specs.Flats.{equations_of}
use Rattle.pr_lens_find.specs.Widths.{AreSameAt}
use Rattle.pr_lens_find.proofs.widths.common.Given as goal

abbrev pub invariant-loop-count : goal.invariant-loop-count
invariant-loop-count l = record { within : l.count ≤ vec_len l.one.equations; same : (number : ℕ) → number < l.count → AreSameAt (equations_of l.one) (equations_of l.other) number }

abbrev pub decreases-loop-count : goal.decreases-loop-count
decreases-loop-count l = vec_len l.one.equations - l.count
