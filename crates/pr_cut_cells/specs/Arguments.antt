-- Operands as lists.
use Rattle.std.specs.Prelude.{ℕ, List, [], ◌∷◌}
use Rattle.std.specs.Cow.{cow_slice_items}
use Rattle.pr_net.specs.declared.cells.Slice.{Slice}
use Rattle.pr_cut_units.specs.Parts.{Making}
use Rattle.pr_cut_units.specs.Widening.{both_widened}
use Rattle.pr_cut_units.specs.Widening as Widening
use Rattle.pr_cut_cells.specs.declared.arguments.Argument.{Argument}

abbrev pub argument_of : Argument → Widening.Argument
argument_of a = record { slices = cow_slice_items a.slices; form = record { signed = a.signed; width = a.width } }

-- two operands, and three
abbrev pub pair_of : Argument → Argument → List Widening.Argument
pair_of a b = argument_of a ∷ argument_of b ∷ []

abbrev pub triple_of : Argument → Argument → Argument → List Widening.Argument
triple_of c a b = argument_of c ∷ argument_of a ∷ argument_of b ∷ []

-- a part that reads both operands at t bits
abbrev pub both_at : ℕ → Argument → Argument → (List Slice → List Slice → Making) → Making
both_at t a b making = both_widened t (argument_of a) (argument_of b) making
