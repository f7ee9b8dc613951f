-- The walk over a program, and its first offence.
use Rattle.std.specs.Prelude.{◌≡◌, ℕ, ◌+◌, Bool, true, false, cond, ◌&&◌, ◌||◌, not, List, [], ◌∷◌, ◌++◌, map, length, Option, Some, None, Result, Ok, Err, MatchResult, ⊤}
use Rattle.std.specs.List.{list_any}
use Rattle.pr_base.specs.declared.caps.Cap.TheVariants as cap
use Rattle.pr_lang.specs.declared.trees.Fixed.{Fixed}
use Rattle.pr_lang.specs.declared.trees.Expr.{Expr}
use Rattle.pr_lang.specs.declared.trees.Stmt.{Stmt}
use Rattle.pr_lang.specs.declared.trees.Param.{Param}
use Rattle.pr_lang.specs.declared.trees.Item.{Item}
use Rattle.pr_lang.specs.declared.trees.Item.TheVariants.{Input, Output, Const, Table, Function, Step}
use Rattle.pr_lang.specs.declared.trees.Program.{Program}
use Rattle.pr_scope_names.specs.declared.rules.Rule.TheVariants.{Introduced, Bounds, Ends}
use Rattle.pr_scope_names.specs.declared.rules.Offence.{Offence}
use Rattle.pr_scope_names.specs.declared.rules.Offence.TheVariants.{Turns, Breaks}
use Rattle.pr_scope_names.specs.declared.rules.Stop.{Stop}
use Rattle.pr_scope_names.specs.declared.rules.Stop.TheVariants as stop
use Rattle.pr_scope_names.specs.declared.counts.Count.{Count}
use Rattle.pr_scope_names.specs.declared.names.Callee.{Callee}
use Rattle.pr_scope_names.specs.declared.names.Static.{Static}
use Rattle.pr_scope_names.specs.declared.names.Static.TheVariants as static
use Rattle.pr_scope.specs.declared.statements.Ready.{Ready}
use Rattle.pr_scope.specs.declared.progress.WalkState.{WalkState}
use Rattle.pr_scope.specs.declared.checking.ScopeFault.{ScopeFault}
use Rattle.pr_scope.specs.declared.checking.ScopeFault.TheVariants.{Scope, Limit, Memory}
use Rattle.pr_scope_names.specs.Outcomes.{Gives, and_then, provided, in_turn, all_of, counted, number_of}
use Rattle.pr_scope_names.specs.Names.{Known, Streaming, built_in, is_free, assign, bind, known_in, streams_in}
use Rattle.pr_scope_names.specs.Constants.{constant_of}
use Rattle.pr_scope.specs.Expressions.{walk_of, past_of}
use Rattle.pr_scope.specs.Statements.{Progress, completed, is_width, changes_of, change_of, stmts_past_of}

-- what the items so far have made
pub record World : Type 0 where
  pub known : Known
  pub streams : Streaming
  pub count : Count
  pub inputs : List ℕ
  pub has_output : Bool

abbrev pub start : World
start = record {
  known = built_in;
  streams = λ _. None;
  count = record { turns = 0; deepest = 0 };
  inputs = [];
  has_output = false;
}

abbrev pub with_progress : World → Progress → World
with_progress w s = record {
  known = w.known;
  streams = s.streams;
  count = s.count;
  inputs = w.inputs;
  has_output = w.has_output;
}

abbrev pub with_known : World → Count → Known → World
with_known w c known = record {
  known = known;
  streams = w.streams;
  count = c;
  inputs = w.inputs;
  has_output = w.has_output;
}

abbrev pub with_input : World → ℕ → World
with_input w width = record {
  known = w.known;
  streams = w.streams;
  count = w.count;
  inputs = w.inputs ++ width ∷ [];
  has_output = w.has_output;
}

abbrev pub with_output : World → World
with_output w = record { known = w.known; streams = w.streams; count = w.count; inputs = w.inputs; has_output = true }

abbrev pub input_ready : ℕ → Count → Result Ready Offence
input_ready width count =
    and_then (counted 0 count) (λ c.
    provided (is_width (Some width)) Bounds
    (Ok (record { place = None; count = c })))

abbrev pub output_ready : Option ℕ → Expr → Known → Streaming → Count → Result Ready Offence
output_ready width value known streams count =
    and_then (counted 0 count) (λ c.
    provided (is_width width) Bounds
    (and_then (walk_of value known streams (record { own = None; inside = false }) c) (λ d.
    Ok (record { place = None; count = d }))))

-- a name that stands for no stream is introduced
abbrev pub introduced : List ℕ → Static → Known → Streaming → Result Known Offence
introduced name what known streams = provided (is_free name known streams) Introduced (Ok (bind name what known))

-- a function's parameters, which alone are streams at its begin
abbrev pub params_from : List Param → Known → Streaming → Result Streaming Offence
params_from params known = in_turn (map (λ (p : Param). assign p.name None known) params)

abbrev pub have_widths : List Param → Bool
have_widths params = not (list_any (λ (p : Param). not (is_width p.width)) params)

-- what callers see of the function of this item; its body has a count of its own
abbrev pub body_walk : List Stmt → Expr → Known → Streaming → Result Count Offence
body_walk body result known locals =
    and_then (changes_of body known true (record { streams = locals; count = record { turns = 0; deepest = 0 } })) (λ s.
    walk_of result known s.streams (record { own = None; inside = true }) s.count)

abbrev pub callee_of : ℕ → List Param → Option ℕ → List Stmt → Expr → Known → Result Callee Offence
callee_of at params width body result known =
    and_then (params_from params known (λ _. None)) (λ locals.
    provided (have_widths params && is_width width) Bounds
    (and_then (body_walk body result known locals) (λ d.
    Ok (record {
      item = Some at;
      params = length params;
      turns = d.turns;
      depth = d.deepest + 1;
      past = stmts_past_of body known || past_of result known;
    }))))

abbrev pub input_change : List ℕ → ℕ → World → Result World Offence
input_change name width w =
    and_then (input_ready width w.count) (λ r.
    and_then (completed name w.known w.streams r) (λ s.
    Ok (with_input (with_progress w s) width)))

abbrev pub output_change : List ℕ → Option ℕ → Expr → World → Result World Offence
output_change name width value w =
    and_then (output_ready width value w.known w.streams w.count) (λ r.
    and_then (completed name w.known w.streams r) (λ s.
    Ok (with_output (with_progress w s))))

abbrev pub constant_change : List ℕ → Fixed → World → Result World Offence
constant_change name value w =
    and_then (counted 0 w.count) (λ c.
    and_then (constant_of value w.known) (λ n.
    and_then (introduced name (static.Constant n) w.known w.streams) (λ known.
    Ok (with_known w c known))))

abbrev pub table_change : List ℕ → List Fixed → World → Result World Offence
table_change name values w =
    and_then (counted 0 w.count) (λ c.
    and_then (all_of (map (λ v. constant_of v w.known) values)) (λ entries.
    and_then (introduced name (static.Table entries) w.known w.streams) (λ known.
    Ok (with_known w c known))))

-- a function's name is looked at first, and is visible after its body
abbrev pub function_change : ℕ → List ℕ → List Param → Option ℕ → List Stmt → Expr → World → Result World Offence
function_change at name params width body result w =
    and_then (counted 0 w.count) (λ c.
    provided (is_free name w.known w.streams) Introduced
    (and_then (callee_of at params width body result w.known) (λ f.
    Ok (with_known w c (bind name (static.Function f) w.known)))))

abbrev pub step_change : Stmt → World → Result World Offence
step_change stmt w =
    and_then (change_of stmt w.known false (record { streams = w.streams; count = w.count })) (λ s.
    Ok (with_progress w s))

-- the item of this number
abbrev pub item_change : ℕ → Item → World → Result World Offence
item_change at (Input name width) w = input_change name width w
item_change at (Output name width value) w = output_change name width value w
item_change at (Const name value) w = constant_change name value w
item_change at (Table name values) w = table_change name values.items w
item_change at (Function name params width body result) w =
    function_change at name params.items width body.items result w
item_change at (Step stmt) w = step_change stmt w

-- the first offence of a program: too many turns, or the rule of this number at an item
pub data Refusal : Type 0 where
  too_long : Refusal
  broken : ℕ → ℕ → Refusal

abbrev pub refusal : ℕ → Offence → Refusal
refusal at Turns = too_long
refusal at (Breaks rule) = broken (number_of rule) at

abbrev pub is_empty : List ℕ → Bool
is_empty [] = true
is_empty (n ∷ ns) = false

-- after the last item there is an input and an output
abbrev pub ended : ℕ → World → Result World Refusal
ended at w = cond (not (is_empty w.inputs) && w.has_output) (Ok w) (Err (broken (number_of Ends) at))

abbrev pub onward : ℕ → Result World Offence → (World → Result World Refusal) → Result World Refusal
onward at (Ok w) rest = rest w
onward at (Err o) rest = Err (refusal at o)

-- the items from this number on
abbrev pub items_walk : ℕ → List Item → World → Result World Refusal
items_walk at [] w = ended at w
items_walk at (i ∷ is) w = onward at (item_change at i w) (items_walk (at + 1) is)

abbrev pub program_walk : Program → Result World Refusal
program_walk program = items_walk 0 program.items.items start

abbrev pub refusal_of : Result World Refusal → Option Refusal
refusal_of (Ok w) = None
refusal_of (Err r) = Some r

abbrev pub offence : Program → Option Refusal
offence program = refusal_of (program_walk program)

abbrev pub inputs_after : Result World Refusal → List ℕ
inputs_after (Ok w) = w.inputs
inputs_after (Err r) = []

abbrev pub turns_after : Result World Refusal → ℕ
turns_after (Ok w) = w.count.turns
turns_after (Err r) = 0

-- a fault that says just this
abbrev pub IsRefusal : ScopeFault → Option Refusal → Type 0
IsRefusal (Scope rule item) refusal = refusal ≡ Some (broken rule item)
IsRefusal (Limit which) refusal = (which ≡ cap.Turns) × (refusal ≡ Some too_long)
IsRefusal (Memory e) refusal = ⊤

abbrev pub IsFault : Stop → ℕ → ScopeFault → Type 0
IsFault (stop.Offends o) at fault = IsRefusal fault (Some (refusal at o))
IsFault (stop.Memory e) at fault = (r : Option Refusal) → IsRefusal fault r

-- what the code keeps
abbrev pub world_of : WalkState → World
world_of m = record {
  known = known_in m.statics;
  streams = streams_in m.streams;
  count = m.count;
  inputs = m.inputs.items;
  has_output = m.has_output;
}

-- what the code keeps after a step is what the change makes of what it kept before
abbrev pub Follows : Result Unit Stop → WalkState → WalkState → (World → Result World Offence) → Type 0
Follows result old new change = Gives result (λ _. world_of new) (change (world_of old))

abbrev pub Walked : {T : Type 0} → Result T ScopeFault → (T → World) → Result World Refusal → Type 0
Walked result world outcome = MatchResult result (λ t. outcome ≡ Ok (world t)) (λ e. IsRefusal e (refusal_of outcome))
