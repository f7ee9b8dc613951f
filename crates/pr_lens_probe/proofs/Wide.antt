-- Outputs read equations that are there.
use Rattle.std.proofs.Common.{◌≡◌, ◌<◌, ℕ, zero, suc, true, List, [], ◌∷◌, get_or, length, refl, arith}
use Rattle.std.specs.List.{list_all}
use Rattle.std.proofs.lemmas.Bool.{and_parts}
use Rattle.pr_flat.specs.declared.equations.Operand.{Operand}
use Rattle.pr_flat.specs.declared.equations.Operand.TheVariants.{Const, Eq, Past}
use Rattle.pr_flat.specs.Facts.{is_lawful_output}
use Rattle.pr_width.specs.Reads.{is_within}

within : (n : ℕ) (o : Operand) → is_lawful_output n o ≡ true → is_within n o ≡ true
within n (Const k) is = refl
within n (Eq i) is = is
within n (Past rec k) is = cc

-- an output reads an equation that is there
pub output-within : (n : ℕ) (outputs : List Operand) (k : ℕ) (d : Operand) → list_all (is_lawful_output n) outputs ≡ true → k < length outputs → is_within n (get_or outputs k d) ≡ true
output-within n [] k d all below = absurd (let no : k < 0 = below in omega (arith, no))
output-within n (o ∷ os) zero d all below = within n o (and_parts _ _ all).0
output-within n (o ∷ os) (suc k) d all below = output-within n os k d (and_parts _ _ all).1 (let less : suc k < length (o ∷ os) = below in omega (arith, less))
