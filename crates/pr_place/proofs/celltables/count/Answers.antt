use Rattle.std.proofs.Common.{arith, get_or}
use Rattle.pr_place.proofs.RoomLemmas.{count_fits}
use Rattle.pr_place.proofs.celltables.count.Goals as goal

pub overflow_add-uses : goal.overflow_add-uses
overflow_add-uses c =
    let x = get_or c.args.reads.now c.loop-cell.cell-index 0 in
    let counted = c.loop-cell.invariant.counted x in
    let room = c.requires.room x in
    let fits = count_fits c.args.reads.now c.loop-cell.cell-index c.loop-cell-test.true in
    omega (arith, counted, room, fits.0, fits.1)
