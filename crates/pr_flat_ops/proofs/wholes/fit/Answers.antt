use Rattle.std.proofs.Common.{◌∙◌, ◌%◌, ◌^◌, ap, arith}
use Rattle.pr_flat.specs.Forms.{value}
use Rattle.pr_flat_ops.proofs.Residues.{residue_narrower}
use Rattle.pr_flat_ops.proofs.wholes.fit.Goals as goal

pub returns : goal.returns
returns c n below is = c.cut.ensures ∙ (ap (λ x. x % 2 ^ c.args.w.bits) (c.whole_of.ensures.bits n below is) ∙ residue_narrower 128 c.args.w.bits (value c.args.point.form n) (omega (arith, c.args.w.greatest)))
