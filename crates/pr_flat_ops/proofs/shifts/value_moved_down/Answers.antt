use Rattle.std.proofs.Common.{◌<◌, ◌^◌, rules}
use Rattle.pr_flat_ops.proofs.ShiftLemmas.{negative_moved, positive_moved}
use Rattle.pr_flat_ops.proofs.shifts.value_moved_down.Goals as goal

pub returns-then-x : goal.returns-then-x
returns-then-x c =
    let few : c.args.x.bits < 2 ^ 128 = search rules in
    negative_moved c.args.x c.args.by c.moved_down.result few c.if-x.true c.moved_down.ensures

pub returns-else-x : goal.returns-else-x
returns-else-x c =
    let few : c.args.x.bits < 2 ^ 128 = search rules in
    positive_moved c.args.x c.args.by c.moved_down-else-x.result few c.if-x.false c.moved_down-else-x.ensures
