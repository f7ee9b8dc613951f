-- Sums and products of unsigned operands.
use Rattle.std.proofs.Common.{◌≡◌, ℕ, ◌+◌, ◌*◌, ◌%◌, ◌^◌, ◌≤◌, true, false, [], ◌∷◌, ap, sym, refl, ◌∙◌}
use Rattle.pr_flat.specs.declared.equations.Op.{Op}
use Rattle.pr_flat.specs.declared.equations.Op.TheVariants.{Add, Mul}
use Rattle.pr_flat.specs.declared.forms.Point.{Point}
use Rattle.pr_flat.specs.Forms.{value}
use Rattle.pr_flat.specs.Values.{operator_number}
use Rattle.pr_flat.proofs.FormLemmas.{residue-pos}
use Rattle.pr_flat_ops.proofs.Residues.{narrower}
use Rattle.pr_source.specs.Reading.{operates, IsPlain}

-- an operand that is read as a number
abbrev pub unsigned : ℕ → ℕ → Point
unsigned w n = record { form = record { signed = false; width = w }; number = n }

pub plain_number_is : (w u v : ℕ) (op : Op) (a b n : ℕ) → w ≤ 128 → IsPlain op a b n → n % 2 ^ w ≡ operator_number w op (unsigned u a ∷ unsigned v b ∷ [])
unfolding value
plain_number_is w u v Add a b n small is = ap (λ (m : ℕ). m % 2 ^ w) is ∙ (narrower (a + b) w 128 small ∙ sym (residue-pos w (a + b)))
plain_number_is w u v Mul a b n small is = ap (λ (m : ℕ). m % 2 ^ w) is ∙ (narrower (a * b) w 128 small ∙ sym (residue-pos w (a * b)))
plain_number_is w u v op a b n small is = absurd is

pub plain_operates : (op : Op) (a b n : ℕ) → IsPlain op a b n → operates op ≡ true
plain_operates Add a b n is = refl
plain_operates Mul a b n is = refl
plain_operates op a b n is = absurd is
