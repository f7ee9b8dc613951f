use Rattle.std.proofs.Common.{◌/◌, ◌^◌, ap, ◌∙◌}
use Rattle.pr_flat_ops.proofs.ShiftLemmas.{wrapped_slice}
use Rattle.pr_flat_ops.proofs.shifts.sliced.Goals as goal

pub returns : goal.returns
returns c = wrapped_slice c.args.high c.args.low c.args.a c.moved_down.result c.moved_down.type_inv (c.moved_down.ensures ∙ ap (λ k. c.args.a.number / 2 ^ k) c.from.ensures)
