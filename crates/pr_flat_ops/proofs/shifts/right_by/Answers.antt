use Rattle.std.proofs.Common.{◌^◌, pos, ap, ◌∙◌}
use Rattle.std.specs.Int.{int_div_euclid}
use Rattle.pr_flat.specs.Forms.{residue}
use Rattle.pr_flat_ops.proofs.ShiftLemmas.{wrapped_right_by}
use Rattle.pr_flat_ops.proofs.shifts.right_by.Goals as goal

pub returns : goal.returns
returns c = wrapped_right_by c.args.a c.args.by c.value_moved_down.result c.requires (c.value_moved_down.ensures ∙ ap (λ z. residue 128 (int_div_euclid z (pos (2 ^ c.args.by.number)))) (c.whole_of.ensures.value c.requires))
