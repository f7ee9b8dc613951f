use Rattle.std.proofs.Common.{subst, sym, [], ◌∷◌}
use Rattle.pr_flat.specs.declared.equations.Op.TheVariants.{LeftBy}
use Rattle.pr_flat_ops.specs.Wholes.{IsWrapped}
use Rattle.pr_flat_ops.proofs.Values.{point_bits}
use Rattle.pr_flat_ops.proofs.ShiftLemmas.{wrapped_left_by}
use Rattle.pr_flat_ops.proofs.shifts.left_by.Goals as goal

pub returns : goal.returns
returns c =
    let x = point_bits c.args.a c.whole_of.result.bits c.requires c.whole_of.ensures.bits in
    subst (IsWrapped LeftBy (c.args.a ∷ c.args.by ∷ [])) (sym c.moved_up.ensures) (wrapped_left_by c.args.a c.args.by c.whole_of.result.bits x)
