-- The verdicts on the comparisons, the declared widths and the calls of a program, in the order of its text.
use Rattle.std.specs.Prelude.{ℕ, ◌+◌, false, List, [], ◌∷◌, ◌++◌, Option, Some, None}
use Rattle.pr_lang.specs.declared.trees.Fixed.{Fixed}
use Rattle.pr_lang.specs.declared.trees.Expr.{Expr}
use Rattle.pr_lang.specs.declared.trees.Stmt.{Stmt}
use Rattle.pr_lang.specs.declared.trees.Param.{Param}
use Rattle.pr_lang.specs.declared.trees.Item.{Item}
use Rattle.pr_lang.specs.declared.trees.Item.TheVariants as item
use Rattle.pr_lang.specs.declared.trees.Program.{Program}
use Rattle.pr_lens_extents.specs.declared.verdicts.Verdict.{Verdict}
use Rattle.pr_lens_reach.specs.Extents.{settled_as, width_form}
use Rattle.pr_lens_extents.specs.Scenes.{Seen, fixed_value, nothing_seen, with_constant, with_stream}
use Rattle.pr_lens_extents.specs.Parameters.{with_params}
use Rattle.pr_lens_extents.specs.Expressions.{assigned_verdicts, extent_of, verdicts_of}
use Rattle.pr_lens_extents.specs.Statements.{Outcome, behind, in_turn, step_of, steps_of}

abbrev pub with_value : List ℕ → Option ℕ → Option ℕ → Seen → Seen
with_value name place None seen = seen
with_value name place (Some n) seen = with_constant name place n seen

-- the entries of a table from this one on
abbrev pub with_entries : List ℕ → ℕ → List Fixed → Seen → Seen
with_entries name at [] seen = seen
with_entries name at (f ∷ fs) seen = with_entries name (at + 1) fs (with_value name (Some at) (fixed_value f seen) seen)

abbrev pub quiet : Seen → Outcome
quiet seen = record { verdicts = []; seen = seen }

-- where constants alone are known
abbrev pub constants_alone : Seen → Seen
constants_alone seen = record seen { streams = λ name. None }

-- a function is looked at where it is defined, with parameters of which nothing is known; its streams are its own
abbrev pub body_outcome : List Stmt → Expr → Seen → Outcome
body_outcome body result seen =
    let o = in_turn (steps_of body) (constants_alone seen) in
    record { verdicts = o.verdicts ++ verdicts_of result (Some o.seen); seen = record o.seen { streams = seen.streams } }

-- behind it is known which of its parameters it reads by `signed`
abbrev pub function_outcome : List ℕ → List Param → List Stmt → Expr → Seen → Outcome
function_outcome name params body result seen =
    let o = body_outcome body result seen in
    record { verdicts = o.verdicts; seen = with_params name 0 params body result o.seen }

abbrev pub output_outcome : List ℕ → Option ℕ → Expr → Seen → Outcome
output_outcome name width e seen = record {
  verdicts = assigned_verdicts width e (Some seen);
  seen = with_stream name None (settled_as width (extent_of e seen)) seen;
}

abbrev pub item_outcome : Item → Seen → Outcome
item_outcome (item.Input name width) seen = quiet (with_stream name None (width_form false width) seen)
item_outcome (item.Output name width e) seen = output_outcome name width e seen
item_outcome (item.Const name value) seen = quiet (with_value name None (fixed_value value seen) seen)
item_outcome (item.Table name values) seen = quiet (with_entries name 0 values.items seen)
item_outcome (item.Function name params width body result) seen = function_outcome name params.items body.items result seen
item_outcome (item.Step stmt) seen = (step_of stmt).run seen

abbrev pub items_outcome : List Item → Seen → Outcome
items_outcome [] seen = quiet seen
items_outcome (i ∷ is) seen = behind (item_outcome i seen).verdicts (items_outcome is (item_outcome i seen).seen)

abbrev pub program_verdicts : Program → List Verdict
program_verdicts program = (items_outcome program.items.items nothing_seen).verdicts
