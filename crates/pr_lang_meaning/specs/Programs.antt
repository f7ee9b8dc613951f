-- What a program means: the numbers of its outputs for whole lists of samples.
use Rattle.std.specs.Prelude.{ℕ, ◌+◌, Bool, false, cond, List, [], ◌∷◌, ◌++◌, map, length, get_or, Option, Some, None, option_map, is_some, codes}
use Rattle.std.specs.Option.{option_and_then, unwrap_or}
use Rattle.std.specs.Result.{result_ok}
use Rattle.std.specs.List.{range_with_len}
use Rattle.pr_lang.specs.declared.trees.Fixed.{Fixed}
use Rattle.pr_lang.specs.declared.trees.Expr.{Expr}
use Rattle.pr_lang.specs.declared.trees.Stmt.{Stmt}
use Rattle.pr_lang.specs.declared.trees.Param.{Param}
use Rattle.pr_lang.specs.declared.trees.Item.{Item}
use Rattle.pr_lang.specs.declared.trees.Item.TheVariants as item
use Rattle.pr_lang.specs.declared.trees.Program.{Program}
use Rattle.pr_scope_names.specs.declared.names.Static.{Static}
use Rattle.pr_scope_names.specs.declared.names.Static.TheVariants as static
use Rattle.pr_scope_names.specs.Names.{Known, bind, built_in}
use Rattle.pr_scope_names.specs.Constants.{constant_of}
use Rattle.pr_flat.specs.Forms.{Stream}
use Rattle.pr_flat.specs.Facts.{is_width}
use Rattle.pr_lang_meaning.specs.Streams.{Streams, no_streams, sources, with_stream, fitted, assigned}
use Rattle.pr_lang_meaning.specs.Expressions.{Function, Visible, signed, meaning}
use Rattle.pr_lang_meaning.specs.Statements.{change_of, changes_of}

-- an argument, at the parameter's declared width if it has one
abbrev pub passed : Option ℕ → Stream → Stream
passed None s = s
passed (Some w) s = fitted w s

abbrev pub with_arguments : List Param → List Stream → Streams → Option Streams
with_arguments [] [] env = Some env
with_arguments (p ∷ ps) (s ∷ ss) env = with_arguments ps ss (with_stream p.name None (passed p.width s) env)
with_arguments _ _ env = None

-- a function sees its arguments, and what was visible where it is defined
abbrev pub function_of : List Param → Option ℕ → List Stmt → Expr → Visible → Function
function_of params width body result v = λ m args.
    option_and_then (λ env.
    option_and_then (λ locals. assigned width (meaning result v m (sources m locals))) (changes_of body v m env)) (with_arguments params args no_streams)

-- `signed`, which is there before the first item
abbrev pub signed_function : Function
signed_function m (s ∷ []) = Some (signed s)
signed_function m _ = None

abbrev pub at_first : Visible
at_first = record { known = built_in; functions = bind (codes "signed") signed_function (λ _. None) }

-- what the items so far have made
pub record World : Type 0 where
  pub visible : Visible
  pub streams : Streams
  pub inputs : ℕ
  pub outputs : List Stream

abbrev pub start : World
start = record { visible = at_first; streams = no_streams; inputs = 0; outputs = [] }

-- the numbers that the samples give input i
abbrev pub column : ℕ → List (List ℕ) → List ℕ
column i xs = map (λ row. get_or row i 0) xs

abbrev pub input_stream : ℕ → ℕ → List (List ℕ) → Stream
input_stream width i xs = record { form = record { signed = false; width = width }; numbers = column i xs }

abbrev pub with_input : List ℕ → Stream → World → World
with_input name s w = record w { streams = with_stream name None s w.streams; inputs = w.inputs + 1 }

abbrev pub with_output : List ℕ → World → Stream → World
with_output name w s = record w { streams = with_stream name None s w.streams; outputs = w.outputs ++ s ∷ [] }

abbrev pub with_static : List ℕ → World → Static → World
with_static name w s = record w { visible = record { known = bind name s w.visible.known; functions = w.visible.functions } }

-- of a function its name tells the item that defines it, and the number of its parameters
abbrev pub function_at : ℕ → List Param → Static
function_at at params = static.Function (record { item = Some at; params = length params; turns = 0; depth = 0; past = false })

abbrev pub with_function : List ℕ → Static → Function → World → World
with_function name what f w = record w { visible = record { known = bind name what w.visible.known; functions = bind name f w.visible.functions } }

abbrev pub entries_of : List Fixed → Known → Option (List ℕ)
entries_of [] known = Some []
entries_of (v ∷ vs) known = option_and_then (λ n. option_map (λ ns. n ∷ ns) (entries_of vs known)) (result_ok (constant_of v known))

-- the item of this number, over these samples
abbrev pub item_change : List (List ℕ) → ℕ → Item → World → Option World
item_change xs at (item.Input name width) w = cond (is_width width) (Some (with_input name (input_stream width w.inputs xs) w)) None
item_change xs at (item.Output name width e) w = option_map (with_output name w) (assigned width (meaning e w.visible (length xs) (sources (length xs) w.streams)))
item_change xs at (item.Const name value) w = option_map (λ n. with_static name w (static.Constant n)) (result_ok (constant_of value w.visible.known))
item_change xs at (item.Table name values) w = option_map (λ ns. with_static name w (static.Table ns)) (entries_of values.items w.visible.known)
item_change xs at (item.Function name params width body result) w = Some (with_function name (function_at at params.items) (function_of params.items width body.items result w.visible) w)
item_change xs at (item.Step stmt) w = option_map (λ env. record w { streams = env }) (change_of stmt w.visible (length xs) w.streams)

-- the items from this number on
abbrev pub items_change : List (List ℕ) → ℕ → List Item → World → Option World
items_change xs at [] w = Some w
items_change xs at (i ∷ is) w = option_and_then (items_change xs (at + 1) is) (item_change xs at i w)

-- the outputs' streams; none where an assignment has no width
abbrev pub streams_of : Program → List (List ℕ) → Option (List Stream)
streams_of program xs = option_map (λ (w : World). w.outputs) (items_change xs 0 program.items.items start)

-- row by row, the outputs' numbers in the order of their declarations
abbrev pub rows_of : ℕ → List Stream → List (List ℕ)
rows_of m ss = map (λ n. map (λ (s : Stream). get_or s.numbers n 0) ss) (range_with_len 0 m)

abbrev pub out : Program → List (List ℕ) → List (List ℕ)
out program xs = rows_of (length xs) (unwrap_or (streams_of program xs) [])

-- every assignment that is met has a width
abbrev pub has_widths : Program → Bool
has_widths program = is_some (streams_of program [])
