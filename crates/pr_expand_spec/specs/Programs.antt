-- The equations of a program, and the operands of its outputs.
use Rattle.std.specs.Prelude.{ℕ, ◌+◌, Bool, false, true, cond, List, [], ◌∷◌, ◌++◌, map, Option, Some, None, codes}
use Rattle.pr_lang.specs.declared.trees.Fixed.{Fixed}
use Rattle.pr_lang.specs.declared.trees.Expr.{Expr}
use Rattle.pr_lang.specs.declared.trees.Stmt.{Stmt}
use Rattle.pr_lang.specs.declared.trees.Param.{Param}
use Rattle.pr_lang.specs.declared.trees.Item.{Item}
use Rattle.pr_lang.specs.declared.trees.Item.TheVariants as item
use Rattle.pr_lang.specs.declared.trees.Program.{Program}
use Rattle.pr_scope_names.specs.declared.names.Static.{Static}
use Rattle.pr_scope_names.specs.declared.names.Static.TheVariants.{Constant, Table}
use Rattle.pr_scope_names.specs.Names.{bind, built_in}
use Rattle.pr_lang_meaning.specs.Programs.{function_at}
use Rattle.pr_flat.specs.declared.equations.Operand.{Operand}
use Rattle.pr_flat.specs.declared.equations.Operand.TheVariants.{Const}
use Rattle.pr_flat.specs.declared.equations.Op.TheVariants.{Input}
use Rattle.pr_flat.specs.Facts.{is_width}
use Rattle.pr_expand_spec.specs.declared.givens.Given.{Given}
use Rattle.pr_expand_spec.specs.Making.{Equations, Expanded, made, with_equation, lawful, fitted, constant}
use Rattle.pr_expand_spec.specs.Expressions.{Streams, Inlined, Visible, assigned}
use Rattle.pr_expand_spec.specs.Statements.{Progress, named, with_standing, change_of, changes_of}

abbrev pub no_streams : Streams
no_streams = λ name at. None

-- an argument under a declared width, if there is one
abbrev pub fitted_to : Option ℕ → Given → Equations → Expanded
fitted_to None g equations = made equations g.operand g.signed
fitted_to (Some w) g equations = fitted w g equations

abbrev pub passed : Option ℕ → Given → Equations → Expanded
passed width g equations = fitted_to (lawful width) g equations

-- all arguments are there before the first parameter is bound
abbrev pub with_arguments : List Param → List Given → Progress → Progress
with_arguments (p ∷ ps) (g ∷ gs) s = with_arguments ps gs (named p.name None s.streams (passed p.width g s.equations))
with_arguments _ _ s = s

-- a function sees its arguments, and what was visible where it is defined
abbrev pub inlined : List Param → Option ℕ → List Stmt → Expr → Visible → Inlined
inlined params width body result v = λ args equations.
    let s = changes_of body v (with_arguments params args (record { streams = no_streams; equations = equations })) in
    assigned width result v s.streams s.equations

-- `signed` makes no equation
abbrev pub signed_function : Inlined
signed_function (g ∷ []) equations = made equations g.operand true
signed_function _ equations = made equations (Const 0) false

pub record World : Type 0 where
  pub visible : Visible
  pub progress : Progress
  pub outputs : List Operand

abbrev pub start : World
start = record { visible = record { known = built_in; functions = bind (codes "signed") signed_function (λ _. None) }; progress = record { streams = no_streams; equations = [] }; outputs = [] }

abbrev pub with_static : List ℕ → Static → World → World
with_static name s w = record { visible = record { known = bind name s w.visible.known; functions = w.visible.functions }; progress = w.progress; outputs = w.outputs }

abbrev pub with_function : List ℕ → Static → Inlined → World → World
with_function name what f w = record { visible = record { known = bind name what w.visible.known; functions = bind name f w.visible.functions }; progress = w.progress; outputs = w.outputs }

-- an input has a declared width
abbrev pub input_width : ℕ → ℕ
input_width w = cond (is_width w) w 1

abbrev pub with_input : List ℕ → ℕ → World → World
with_input name width w = record w { progress = named name None w.progress.streams (with_equation Input [] (Some (input_width width)) w.progress.equations) }

abbrev pub with_output : List ℕ → Expanded → World → World
with_output name m w = record { visible = w.visible; progress = named name None w.progress.streams m; outputs = w.outputs ++ m.given.operand ∷ [] }

-- the item of this number
abbrev pub item_change : ℕ → Item → World → World
item_change at (item.Input name width) w = with_input name width w
item_change at (item.Output name width e) w = with_output name (assigned width e w.visible w.progress.streams w.progress.equations) w
item_change at (item.Const name value) w = with_static name (Constant (constant value w.visible.known)) w
item_change at (item.Table name values) w = with_static name (Table (map (λ f. constant f w.visible.known) values.items)) w
item_change at (item.Function name params width body result) w = with_function name (function_at at params.items) (inlined params.items width body.items result w.visible) w
item_change at (item.Step stmt) w = record w { progress = change_of stmt w.visible w.progress }

abbrev pub items_change : ℕ → List Item → World → World
items_change at [] w = w
items_change at (i ∷ is) w = items_change (at + 1) is (item_change at i w)

-- the equations of a program, and what each of its outputs gives
pub record Flattened : Type 0 where
  pub equations : Equations
  pub outputs : List Operand

abbrev pub equations_of : Program → Flattened
equations_of program = let w = items_change 0 program.items.items start in record { equations = w.progress.equations; outputs = w.outputs }
