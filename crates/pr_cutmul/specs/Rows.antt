-- The rows of a product and of a shift at the end of a net.
use Rattle.std.specs.Prelude.{◌≡◌, ℕ, ◌<◌, ◌*◌, ◌%◌, ◌^◌, Bool, List}
use Rattle.pr_net.specs.declared.cells.Slice.{Slice}
use Rattle.pr_net.specs.declared.cells.Cell.{Cell}
use Rattle.pr_net.specs.declared.nets.Net.{Net}
use Rattle.pr_net.specs.Reading.{Reading, Has, shown}
use Rattle.pr_net.specs.Runs.{AreBytes}
use Rattle.pr_cut_laws.specs.Laws.{AreEarlier, shifted}

-- nets that differ in their units alone
pub record HasSame (old new : Net) : Type 0 where
  pub groups : new.groups.items ≡ old.groups.items
  pub inputs : new.inputs.items ≡ old.inputs.items
  pub outputs : new.outputs.items ≡ old.outputs.items

-- slices of the first u units that show a number of w bits here
pub record IsOperand (r : Reading) (u w : ℕ) (x : List Slice) : Type 0 where
  pub earlier : AreEarlier u x
  pub lawful : shown r x < 2 ^ w

-- in every net that begins with these units, at every sample: the slices show the first bits of the product of what two operands show,
-- which are slices of the first u units
abbrev pub ShowsProduct : List (List Cell) → ℕ → ℕ → ℕ → ℕ → List Slice → List Slice → List Slice → Type 0
ShowsProduct units u bits wa wb a b product = (r : Reading) → AreBytes r → Has r 0 units → IsOperand r u wa a → IsOperand r u wb b → shown r product ≡ (shown r a * shown r b) % 2 ^ bits

-- and the same of a number of w bits that is shifted to one side by another
abbrev pub ShowsShift : List (List Cell) → ℕ → Bool → ℕ → ℕ → List Slice → List Slice → List Slice → Type 0
ShowsShift units u left wa wby a by moved = (r : Reading) → AreBytes r → Has r 0 units → IsOperand r u wa a → IsOperand r u wby by → shown r moved ≡ shifted left (shown r a) (shown r by) % 2 ^ wa
