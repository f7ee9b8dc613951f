use Rattle.std.proofs.Common.{◌≡◌, take}
use Rattle.pr_net.specs.Whole.{shape_of}
use Rattle.pr_lens_fits.specs.Unfits.{cell_count}
use Rattle.pr_lens_fits.proofs.cells.cells_in.Given as goal

abbrev pub invariant-loop-unit : goal.invariant-loop-unit
invariant-loop-unit l = l.cells ≡ cell_count (shape_of l.net) (take l.unit-index l.units)
