use Rattle.std.proofs.Common.{◌≡◌, ◌<◌, ◌⊎◌, ℕ}
use Rattle.pr_cut_units.specs.Flats.{flat_plan}
use Rattle.pr_lens_fits.specs.Makers.{HasBegun}
use Rattle.pr_lens_fits.proofs.makers.unit_equation.Given as goal

abbrev pub invariant-loop-number : goal.invariant-loop-number
invariant-loop-number l = record {
  is : (l.found ≡ 0) ⊎ HasBegun (flat_plan l.flat l.widths) l.unit l.found;
  last : (k : ℕ) → l.found < k → k < l.number → HasBegun (flat_plan l.flat l.widths) l.unit k → ⊥;
}
