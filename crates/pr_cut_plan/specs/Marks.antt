-- Flags that mark equations.
use Rattle.std.specs.Prelude.{◌≡◌, ◌<◌, ◌≤◌, ◌+◌, ◌||◌, ℕ, Bool, false, List, length, slice_index_or}
use Rattle.pr_flat.specs.declared.equations.Operand.{Operand}
use Rattle.pr_flat.specs.Shape.{EquationShape}
use Rattle.pr_cut_units.specs.Reached.{reached}

-- flag j is set where it was, or where this holds of j
abbrev pub MarksMore : List Bool → List Bool → (ℕ → Bool) → Type 0
MarksMore old new is = (j : ℕ) → j < length old → slice_index_or new j false ≡ (is j || slice_index_or old j false)

-- from no equation from this one on can one of the operands be reached
abbrev pub NoneReached : List EquationShape → List Operand → ℕ → Type 0
NoneReached equations operands end = (j : ℕ) → end ≤ j → slice_index_or (reached equations operands) j false ≡ false

-- so many flags tell it of each equation from this one on
abbrev pub TellReached : List EquationShape → List Operand → ℕ → ℕ → List Bool → Type 0
TellReached equations operands first count flags = (j : ℕ) → j < count → slice_index_or flags j false ≡ slice_index_or (reached equations operands) (first + j) false
