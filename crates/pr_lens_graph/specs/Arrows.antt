-- The text of the arrows of a graph.
use Rattle.std.specs.Prelude.{ℕ, ◌==◌, Bool, false, not, List, ◌++◌, map, filter, Option, Some, None, codes, decimal}
use Rattle.std.specs.List.{enumerate_from, flat_map, slice_get}
use Rattle.pr_net.specs.declared.cells.Cell.{Cell}
use Rattle.pr_net.specs.declared.cells.Wire.{Wire}
use Rattle.pr_net.specs.Shape.{OutputShape, wire_of}
use Rattle.pr_lens_graph.specs.declared.naming.Names.{Names}
use Rattle.pr_lens_graph.specs.declared.wires.Reader.{Reader}
use Rattle.pr_lens_graph.specs.Reads.{bytes_of, states_of, unit_wires}

abbrev pub number_of : Reader → ℕ
number_of (Reader.Unit number) = number
number_of (Reader.Output number) = number

-- an arrow, and the letter of a reader's name
abbrev pub arrow_to : Reader → List ℕ
arrow_to (Reader.Unit number) = codes " -> u"
arrow_to (Reader.Output number) = codes " -> y"

-- whether a reader is this unit
abbrev pub is_unit : Reader → ℕ → Bool
is_unit (Reader.Unit number) unit = number == unit
is_unit (Reader.Output number) unit = false

-- ---- arrows to one reader
-- the arrow from a unit, with its end
unfoldable pub arrow_text : Reader → List ℕ → ℕ → List ℕ
arrow_text reader end unit = codes "  u" ++ decimal unit ++ arrow_to reader ++ decimal (number_of reader) ++ end

-- the arrows from units, but none from a unit to itself
unfoldable pub arrows_from : Reader → List ℕ → List ℕ → List ℕ
arrows_from reader end units = flat_map (arrow_text reader end) (filter (λ unit. not (is_unit reader unit)) units)

-- the arrows from units whose bytes are read, and dashed ones from units whose states are
unfoldable pub arrows_text : Reader → List ℕ → List ℕ → List ℕ
arrows_text reader bytes states =
    arrows_from reader (codes ";\n") bytes ++ arrows_from reader (codes " [style=dashed, constraint=false];\n") states

-- the arrows to a reader with these wires
abbrev pub reads_text : Reader → List Wire → List ℕ
reads_text reader wires = arrows_text reader (bytes_of wires) (states_of wires)

-- ---- units and outputs, with their numbers
abbrev pub unit_arrows : ℕ × List Cell → List ℕ
unit_arrows unit = reads_text (Reader.Unit unit.0) (unit_wires unit.1)

-- the arrows to units, of which the first has this number
abbrev pub units_arrows : ℕ → List (List Cell) → List ℕ
units_arrows number units = flat_map unit_arrows (enumerate_from number units)

-- the name of an output, and its number where names are not told
abbrev pub output_label : ℕ → Option (List ℕ) → List ℕ
output_label number None = decimal number
output_label number (Some name) = name

unfoldable pub output_name : Names → ℕ → List ℕ
output_name names number = codes "  y" ++ decimal number ++ codes " [shape=plaintext, label=\"output " ++ output_label number (slice_get names.outputs.items number) ++ codes "\"];\n"

-- an output with the arrows to it
abbrev pub output_text : Names → ℕ × OutputShape → List ℕ
output_text names output = output_name names output.0 ++ reads_text (Reader.Output output.0) (map wire_of output.1.slices)

-- outputs, of which the first has this number
abbrev pub outputs_text : Names → ℕ → List OutputShape → List ℕ
outputs_text names number outputs = flat_map (output_text names) (enumerate_from number outputs)
