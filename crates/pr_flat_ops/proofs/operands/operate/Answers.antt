use Rattle.std.proofs.Common.{◌≡◌, ℕ, ◌<◌, ◌^◌, List, [], ◌∷◌, length, false, refl, sym, ap, ◌∙◌, arith}
use Rattle.std.proofs.Math.Nat.{zero-mod}
use Rattle.pr_flat.specs.declared.equations.Op.{Op}
use Rattle.pr_flat.specs.declared.equations.Op.TheVariants.{Input}
use Rattle.pr_flat.specs.declared.forms.Point.{Point}
use Rattle.pr_flat.specs.Forms.{residue}
use Rattle.pr_flat.specs.Facts.{arity}
use Rattle.pr_flat.specs.Values.{operator_number}
use Rattle.pr_flat_ops.proofs.Residues.{residue-pos}
use Rattle.pr_flat_ops.proofs.Values.{value_unsigned}
use Rattle.pr_flat_ops.proofs.operands.operate.Goals as goal

none_of : (w : ℕ) (op : Op) (points : List Point) → length points < 1 → length points ≡ arity op → 0 ≡ operator_number w op points
none_of w op (p ∷ ps) few count = absurd (omega arith)
none_of w Input [] few count = sym (ap (residue w) (value_unsigned (record { signed = false; width = 0 }) 0 refl) ∙ (residue-pos w 0 ∙ zero-mod (2 ^ w)))
none_of w op [] few count = absurd (omega (arith, count))

pub returns-in_default : goal.returns-in_default
returns-in_default c = none_of c.args.w.bits c.args.op c.args.operands.now c.in_default.len_below c.requires.count
