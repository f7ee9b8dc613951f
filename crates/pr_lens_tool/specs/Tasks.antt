-- Tasks by their names, with the files and options that they take.
use Rattle.std.specs.Prelude.{ℕ, Bool, not, false, ◌&&◌, ◌||◌, nat_le, nat_eq, List, [], ◌∷◌, Option, Some, None, codes, bytes_eq, option_map, if◌then◌else◌}
use Rattle.std.specs.List.{list_all}
use Rattle.pr_base.specs.declared.fabrics.Fabric.{Fabric}
use Rattle.pr_tool_words.specs.Lawful.{Text}
use Rattle.pr_lens_log.specs.declared.windows.Window.{Window}
use Rattle.pr_lens_tracks.specs.declared.looks.Form.{Form}
use Rattle.pr_lens_tracks.specs.declared.looks.Form.TheVariants.{Csv, Wave}
use Rattle.pr_lens_signals.specs.Manners.{Manner, manner_of}
use Rattle.pr_lens_tool.specs.declared.asking.Options.{Options}
use Rattle.pr_lens_tool.specs.declared.orders.Drawing.{Drawing}
use Rattle.pr_lens_tool.specs.Asked.{AskedProduct, AskedTask, Bench, Cost, Graph, OfLog, OfProgram, Rtl, Signals, Whole, Why}

-- ---- the name of a module
abbrev pub is_digit : ℕ → Bool
is_digit c = nat_le 48 c && nat_le c 57

-- a letter, a digit or an underscore
abbrev pub is_name_byte : ℕ → Bool
is_name_byte c = (nat_le 65 c && nat_le c 90) || (nat_le 97 c && nat_le c 122) || is_digit c || nat_eq c 95

abbrev pub are_name_bytes : List ℕ → Bool
are_name_bytes text = list_all is_name_byte text

-- such bytes, of which the first is no digit
abbrev pub is_module_name : List ℕ → Bool
is_module_name [] = false
is_module_name (c ∷ cs) = not (is_digit c) && are_name_bytes (c ∷ cs)

abbrev pub module_named : List ℕ → Option (List ℕ)
module_named text = if is_module_name text then Some text else None

-- ---- options
-- a waveform, or lines of numbers where they are asked for
abbrev pub form_of : Bool → Form
form_of csv = if csv then Csv else Wave

-- the values of all options
pub record Said : Type 0 where
  pub fabric : Fabric
  pub narrowed : Bool
  pub samples : ℕ
  pub json : Bool
  pub warnings : Bool
  pub name : Text
  pub manner : Manner
  pub seed : ℕ
  pub window : Window

abbrev pub said_in : Options → Said
said_in options = record {
  fabric = options.fabric;
  narrowed = options.narrowed;
  samples = options.samples;
  json = options.json;
  warnings = options.warnings;
  name = options.name.now;
  manner = manner_of options.style;
  seed = options.seed;
  window = options.window;
}

-- ---- tasks
-- what is made of one file
abbrev pub one_file : Text → Said → Option AskedProduct
one_file name said =
    if bytes_eq name (codes "why") then Some (OfProgram (Why said.json said.warnings))
    else if bytes_eq name (codes "cost") then Some (OfProgram (Cost said.json said.samples))
    else if bytes_eq name (codes "graph") then Some (OfProgram Graph)
    else if bytes_eq name (codes "rtl") then Some (OfProgram (Rtl said.name))
    else if bytes_eq name (codes "wave") then Some (OfLog Drawing.Wave said.window)
    else if bytes_eq name (codes "chart") then Some (OfLog Drawing.Chart said.window)
    else None

-- on a program and samples
abbrev pub two_files : Text → Text → Said → Option AskedTask
two_files name samples said =
    if bytes_eq name (codes "signals") then Some (Signals samples said.manner)
    else if bytes_eq name (codes "testbench") then Some (Whole (Bench samples said.name said.seed))
    else None

abbrev pub task_of : Text → Option Text → Said → Option AskedTask
task_of name None said = option_map Whole (one_file name said)
task_of name (Some samples) said = two_files name samples said
