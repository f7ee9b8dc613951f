-- The text of a whole module.
use Rattle.std.specs.Prelude.{◌≡◌, ℕ, true, List, ◌++◌, codes, map}
use Rattle.pr_lang.specs.declared.trees.Program.{Program}
use Rattle.pr_conf.specs.Shape.{Shape}
use Rattle.pr_conf.specs.Rules.{IsLawful}
use Rattle.pr_conf.specs.Through.{output_widths}
use Rattle.pr_code.specs.Spelling.{has_bytes}
use Rattle.pr_lens_rtl.specs.Verilog.{Module}
use Rattle.pr_lens_rtl.specs.Kept.{kept_module, marks_of}
use Rattle.pr_lens_rtl_text.specs.declared.lines.Way.{Way}
use Rattle.pr_lens_rtl_names.specs.declared.names.Side.{Side}
use Rattle.pr_lens_rtl_text.specs.declared.ports.Port.{Port}
use Rattle.pr_lens_rtl_text.specs.declared.notes.Notes.{Notes}
use Rattle.pr_lens_rtl_text.specs.Notes.{Comments, note_of}
use Rattle.pr_lens_rtl_names.specs.Names.{names_in, port_name}
use Rattle.pr_lens_rtl_text.specs.Ports.{ports_text, side_lines, zipped}
use Rattle.pr_lens_rtl_text.specs.Printed.{lines_text}

-- the ports of a program's inputs or outputs, in the order in which the program has them
abbrev pub ports_by : Side → Program → List ℕ → List Port
ports_by side program widths = zipped (map port_name (names_in side program.items.items)) widths

-- the head: the name, and the ports of the handshake. Not every bit of a vector is read, which lint need not tell
unfoldable pub head_text : List ℕ → List ℕ
head_text name =
    codes "/* verilator lint_off UNUSED */\nmodule " ++ name
    ++ codes "(\n  input clock,\n  input reset,\n  input in_valid,\n  output in_ready,\n  output out_valid,\n  input out_ready"

-- a module of a name, with ports for numbers, and with the comments of its vectors
unfoldable pub module_text : Comments → List ℕ → List Port → List Port → Module → List ℕ
module_text note name inputs outputs m =
    head_text name ++ ports_text Side.Input inputs ++ ports_text Side.Output outputs ++ codes "\n);\n"
    ++ side_lines Side.Input 0 inputs
    ++ lines_text note Way.Declared m.registers ++ lines_text note Way.Wire m.wires
    ++ side_lines Side.Output 0 outputs
    ++ codes "always @(posedge clock) begin\n" ++ lines_text note Way.Clocked m.registers ++ codes "end\nendmodule\n"

-- the comments of the vectors that are written for a configuration
abbrev pub comments_of : ℕ → ℕ → Notes → Shape → Comments
comments_of N P notes conf = note_of notes (marks_of N P conf)

-- the module that is written for a program and its configuration; a name that no port may have gets an underscore
-- behind it
abbrev pub rtl_text : ℕ → ℕ → Comments → List ℕ → Program → Shape → List ℕ
rtl_text N P note name program conf =
    module_text note (port_name name) (ports_by Side.Input program conf.inputs) (ports_by Side.Output program (output_widths conf)) (kept_module N P conf)

-- a text is that module, of a configuration that keeps the rules of a fabric and whose constants are bytes
pub record IsRtlText (N P : ℕ) (note : Comments) (name : List ℕ) (program : Program) (conf : Shape) (text : List ℕ) : Type 0 where
  pub is : text ≡ rtl_text N P note name program conf
  pub lawful : IsLawful N P conf
  pub bytes : has_bytes conf ≡ true
