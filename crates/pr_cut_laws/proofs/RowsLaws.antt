-- Products and shifts on slices of earlier units.
use Rattle.std.proofs.Common.{◌≡◌, ℕ, Bool, true, false, List, [], ◌∷◌, refl}
use Rattle.pr_net.specs.declared.cells.Slice.{Slice}
use Rattle.pr_cut_units.proofs.Operands.{AreOperands}
use Rattle.pr_cut_laws.specs.Laws.{AreEarlier, shifted}
use Rattle.pr_cut_laws.proofs.Varies.{moved}

pub earlier_operands : (u : ℕ) (x : List Slice) → AreEarlier u x → AreOperands u x
earlier_operands u [] h = tt
earlier_operands u (s ∷ x) h = (record { before = h.0; byte = h.1 }, earlier_operands u x h.2)

pub shifted_is : (left : Bool) (n k : ℕ) → moved left n k ≡ shifted left n k
shifted_is true n k = refl
shifted_is false n k = refl
