use Rattle.std.proofs.Common.{get_or, refl}
use Rattle.pr_net.specs.Whole.{shape_of}
use Rattle.pr_lens_fits.proofs.UnfitLemmas.{count_more}
use Rattle.pr_lens_fits.proofs.cells.cells_in.Goals as goal

pub loop-unit-preserved : goal.loop-unit-preserved
loop-unit-preserved c =
    let loop = c.loop-unit in
    let more = count_more (shape_of c.args.net.now) c.args.units.now loop.unit-index (get_or c.args.units.now loop.unit-index 0) 0 c.loop-unit-test.true refl in
    cc (more, c.saturating_add-cells.ensures, c.cells_of.ensures, loop.invariant)
