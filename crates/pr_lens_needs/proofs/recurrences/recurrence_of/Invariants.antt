use Rattle.std.proofs.Common.{◌<◌, ℕ}
use Rattle.pr_cut_units.specs.Flats.{flat_plan}
use Rattle.pr_lens_needs.specs.Recurrences.{IsLastOf}
use Rattle.pr_lens_needs.proofs.recurrences.recurrence_of.Given as goal

abbrev pub invariant-loop-rec : goal.invariant-loop-rec
invariant-loop-rec l = (k : ℕ) → k < l.rec → IsLastOf (flat_plan l.flat l.widths) l.unit k → ⊥
