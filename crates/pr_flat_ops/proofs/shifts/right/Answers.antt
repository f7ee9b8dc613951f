use Rattle.std.proofs.Common.{◌^◌, pos, ap, ◌∙◌}
use Rattle.std.specs.Int.{int_div_euclid}
use Rattle.pr_flat.specs.Forms.{residue}
use Rattle.pr_flat_ops.specs.Wholes.{whole_value}
use Rattle.pr_flat_ops.proofs.ShiftLemmas.{wrapped_right}
use Rattle.pr_flat_ops.proofs.shifts.right.Goals as goal

pub returns : goal.returns
returns c =
    let is = c.value_moved_down.ensures ∙ (ap (λ k. residue 128 (int_div_euclid (whole_value c.whole_of.result) (pos (2 ^ k)))) c.from.ensures ∙ ap (λ z. residue 128 (int_div_euclid z (pos (2 ^ c.args.k)))) (c.whole_of.ensures.value c.requires)) in
    wrapped_right c.args.k c.args.a c.value_moved_down.result c.requires is
