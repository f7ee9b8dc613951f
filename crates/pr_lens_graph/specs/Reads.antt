-- The units that wires read.
use Rattle.std.specs.Prelude.{ℕ, ◌≡◌, ◌==◌, not, List, [], ◌∷◌, Option, Some, None, filter}
use Rattle.std.specs.List.{filter_map, flat_map}
use Rattle.pr_net.specs.declared.cells.Cell.{Cell}
use Rattle.pr_net.specs.declared.cells.Wire.{Wire}
use Rattle.pr_cut_units.specs.Groups.{cell_wires}
use Rattle.pr_lens_graph.specs.declared.wires.Reads.{Reads}

-- the unit whose byte a wire reads, and the unit whose state it reads
abbrev pub byte_unit : Wire → Option ℕ
byte_unit (Wire.Const k) = None
byte_unit (Wire.Of unit place) = Some unit
byte_unit (Wire.State unit place) = None
byte_unit (Wire.Bus place) = None

abbrev pub state_unit : Wire → Option ℕ
state_unit (Wire.Const k) = None
state_unit (Wire.Of unit place) = None
state_unit (Wire.State unit place) = Some unit
state_unit (Wire.Bus place) = None

-- the wires of a unit, cell after cell
abbrev pub unit_wires : List Cell → List Wire
unit_wires cells = flat_map cell_wires cells

-- each number once, where it stands first
unfoldable pub firsts : List ℕ → List ℕ
firsts [] = []
firsts (n ∷ ns) = n ∷ filter (λ m. not (n == m)) (firsts ns)

-- the units whose bytes wires read, and those whose states they read, in the order of their first readings
abbrev pub bytes_of : List Wire → List ℕ
bytes_of wires = firsts (filter_map byte_unit wires)

abbrev pub states_of : List Wire → List ℕ
states_of wires = firsts (filter_map state_unit wires)

-- these are the units that wires read
pub record AreReads (reads : Reads) (wires : List Wire) : Type 0 where
  pub bytes : reads.bytes.items ≡ bytes_of wires
  pub states : reads.states.items ≡ states_of wires
