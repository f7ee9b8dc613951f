use Rattle.std.proofs.Common.{◌*◌, ◌%◌, ◌^◌, subst, sym, ap, ◌∙◌, [], ◌∷◌}
use Rattle.pr_flat.specs.declared.equations.Op.TheVariants.{Left}
use Rattle.pr_flat_ops.specs.Wholes.{IsWrapped}
use Rattle.pr_flat_ops.proofs.Values.{point_bits}
use Rattle.pr_flat_ops.proofs.ShiftLemmas.{wrapped_left}
use Rattle.pr_flat_ops.proofs.shifts.left.Goals as goal

pub returns : goal.returns
returns c =
    let x = point_bits c.args.a c.whole_of.result.bits c.requires c.whole_of.ensures.bits in
    let is = c.moved_up.ensures ∙ ap (λ k. c.whole_of.result.bits * 2 ^ k % 2 ^ 128) c.from.ensures in
    subst (IsWrapped (Left c.args.k) (c.args.a ∷ [])) (sym is) (wrapped_left c.args.k c.args.a c.whole_of.result.bits c.requires x)
