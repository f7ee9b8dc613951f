use Rattle.std.proofs.Common.{get_or, refl}
use Rattle.pr_net.specs.Whole.{shape_of}
use Rattle.pr_lens_fits.proofs.UnfitLemmas.{sum_more}
use Rattle.pr_lens_needs.specs.Takes.{cells_between}
use Rattle.pr_lens_needs.proofs.groups.columns_between.Goals as goal

pub loop-unit-preserved : goal.loop-unit-preserved
loop-unit-preserved c =
    let loop = c.loop-unit in
    let more = sum_more (cells_between (shape_of c.args.net.now) c.args.from c.args.to) c.args.units.now loop.unit-index (get_or c.args.units.now loop.unit-index 0) 0 c.loop-unit-test.true refl in
    cc (more, c.saturating_add-cells.ensures, c.cells_between.ensures, loop.invariant)
