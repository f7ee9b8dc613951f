use Rattle.pr_flat_ops.proofs.ShiftLemmas.{wrapped_cat}
use Rattle.pr_flat_ops.proofs.ShiftLemmas.{joined_bits}
use Rattle.pr_flat_ops.proofs.shifts.joined.Goals as goal

pub returns : goal.returns
returns c = wrapped_cat c.args.a c.args.b _ c.requires.a c.requires.b (joined_bits c.args.a.number c.args.b.form.width c.args.b.number c.from.result c.moved_up.result c.from.ensures c.moved_up.ensures)
