-- The text of ports, and of the wires between their numbers and the bytes of samples and results.
use Rattle.std.specs.Prelude.{ℕ, zero, suc, ◌+◌, ◌*◌, ◌-◌, ◌==◌, min, List, [], ◌∷◌, ◌++◌, codes, decimal, if◌then◌else◌}
use Rattle.std.specs.List.{flat_map}
use Rattle.pr_base.specs.Numbers.{slices_of}
use Rattle.pr_lens_rtl_names.specs.declared.names.Side.{Side}
use Rattle.pr_lens_rtl_text.specs.declared.ports.Port.{Port}

-- names with their widths
abbrev pub zipped : List (List ℕ) → List ℕ → List Port
zipped [] widths = []
zipped (name ∷ names) [] = []
zipped (name ∷ names) (width ∷ widths) = record { name = name; width = width } ∷ zipped names widths

-- ---- the list of ports
abbrev pub side_words : Side → List ℕ
side_words Side.Input = codes "input"
side_words Side.Output = codes "output"

abbrev pub port_text : Side → Port → List ℕ
port_text side port = codes ",\n  " ++ side_words side ++ codes " [" ++ decimal (port.width - 1) ++ codes ":0] " ++ port.name

abbrev pub ports_text : Side → List Port → List ℕ
ports_text side ports = flat_map (port_text side) ports

-- ---- bytes
-- how many bits of a number the byte of this place has: eight, and of the last byte what is left
abbrev pub byte_bits : ℕ → ℕ → ℕ
byte_bits width place = min (width - 8 * place) 8

-- so many bits of a port from a byte on
unfoldable pub bits_text : List ℕ → ℕ → ℕ → List ℕ
bits_text name place bits = name ++ codes "[" ++ decimal (8 * place + bits - 1) ++ codes ":" ++ decimal (8 * place) ++ codes "]"

-- the same with zeros above them, which are a byte together
unfoldable pub byte_text : List ℕ → ℕ → ℕ → List ℕ
byte_text name place bits = if bits == 8 then bits_text name place bits else codes "{" ++ decimal (8 - bits) ++ codes "'d0, " ++ bits_text name place bits ++ codes "}"

-- the byte of this place of a port is the byte of that number of the sample or of the result
unfoldable pub in_line : Port → ℕ → ℕ → List ℕ
in_line port place number = codes "wire [7:0] in$" ++ decimal number ++ codes " = " ++ byte_text port.name place (byte_bits port.width place) ++ codes ";\n"

unfoldable pub out_line : Port → ℕ → ℕ → List ℕ
out_line port place number =
    codes "assign " ++ bits_text port.name place (byte_bits port.width place) ++ codes " = out$" ++ decimal number
    ++ codes "[" ++ decimal (byte_bits port.width place - 1) ++ codes ":0];\n"

abbrev pub side_line : Side → Port → ℕ → ℕ → List ℕ
side_line Side.Input port place number = in_line port place number
side_line Side.Output port place number = out_line port place number

-- the first so many bytes of a port, of which the first is this byte of the sample or of the result
abbrev pub byte_lines : Side → Port → ℕ → ℕ → List ℕ
byte_lines side port first zero = []
byte_lines side port first (suc count) = byte_lines side port first count ++ side_line side port count (first + count)

-- ports, one after the other
abbrev pub side_lines : Side → ℕ → List Port → List ℕ
side_lines side first [] = []
side_lines side first (port ∷ ports) = byte_lines side port first (slices_of port.width) ++ side_lines side (first + slices_of port.width) ports
