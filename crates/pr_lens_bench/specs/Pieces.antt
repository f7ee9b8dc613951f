-- What a bench has for each port. The memory s_x has the samples of the port x, w_y the wanted results of y; p_x and
-- p_y are what stands at the ports.
use Rattle.std.specs.Prelude.{ℕ, ◌-◌, List, ◌++◌, codes, decimal}
use Rattle.std.specs.List.{flat_map}
use Rattle.pr_lens_rtl_text.specs.declared.ports.Port.{Port}
use Rattle.pr_lens_bench.specs.declared.pieces.Piece.{Piece}

-- ---- declarations
-- words, the width of a port, a letter, and the name of the port
abbrev pub vector_text : (kind letter : List ℕ) → Port → List ℕ
vector_text kind letter port = kind ++ decimal (port.width - 1) ++ codes ":0] " ++ letter ++ port.name

-- one of these for each sample
abbrev pub memory_text : List ℕ → ℕ → Port → List ℕ
memory_text letter count port = vector_text (codes "  reg [") letter port ++ codes " [0:" ++ decimal (count - 1) ++ codes "];\n"

abbrev pub sample_text : ℕ → Port → List ℕ
sample_text count port = memory_text (codes "s_") count port ++ (vector_text (codes "  reg [") (codes "p_") port ++ codes " = 0;\n")

abbrev pub wanted_text : ℕ → Port → List ℕ
wanted_text count port = memory_text (codes "w_") count port ++ (vector_text (codes "  wire [") (codes "p_") port ++ codes ";\n")

-- ---- the module
unfoldable pub link_text : Port → List ℕ
link_text port = codes ",\n    ." ++ port.name ++ codes "(p_" ++ port.name ++ codes ")"

-- ---- samples and results
-- the next sample, or ones where none is offered
unfoldable pub offer_text : Port → List ℕ
offer_text port =
    codes "    p_" ++ port.name ++ codes " = in_valid ? s_" ++ port.name ++ codes "[offered] : {" ++ decimal port.width
    ++ codes "{1'b1}};\n"

-- the port has another number than is wanted
unfoldable pub differs_text : Port → List ℕ
differs_text port = codes "      if (p_" ++ port.name ++ codes " !== w_" ++ port.name ++ codes "[taken]) begin\n"

-- this is told
unfoldable pub told_text : Port → List ℕ
told_text port =
    codes "        $display(\"result %0d: " ++ port.name ++ codes " is %0d, and is to be %0d\", taken + 1, p_" ++ port.name
    ++ codes ", w_" ++ port.name ++ codes "[taken]);\n        failed = 1;\n      end\n"

abbrev pub check_text : Port → List ℕ
check_text port = differs_text port ++ told_text port

-- ---- all ports
abbrev pub piece_text : Piece → ℕ → Port → List ℕ
piece_text Piece.Sample count port = sample_text count port
piece_text Piece.Wanted count port = wanted_text count port
piece_text Piece.Link count port = link_text port
piece_text Piece.Offer count port = offer_text port
piece_text Piece.Check count port = check_text port

abbrev pub pieces_text : Piece → ℕ → List Port → List ℕ
pieces_text piece count ports = flat_map (piece_text piece count) ports
