-- What the parts of a program make, where the code makes them.
use Rattle.std.specs.Prelude.{ℕ, ◌-◌, ◌∷◌, [], ◌++◌, Bool, List, length, map, Option, Some}
use Rattle.pr_lang.specs.declared.trees.Expr.{Expr}
use Rattle.pr_lang.specs.declared.trees.Fixed.{Fixed}
use Rattle.pr_lang.specs.declared.trees.Item.{Item}
use Rattle.pr_lang.specs.declared.trees.Param.{Param}
use Rattle.pr_lang.specs.declared.trees.Ref.{Ref}
use Rattle.pr_lang.specs.declared.trees.Stmt.{Stmt}
use Rattle.pr_scope_names.specs.declared.names.Statics.{Statics}
use Rattle.pr_scope_names.specs.Names.{known_in}
use Rattle.pr_flat.specs.declared.equations.Op.TheVariants.{Input}
use Rattle.pr_flat.specs.declared.equations.Operand.TheVariants.{Eq}
use Rattle.pr_flat.specs.Shape.{EquationShape}
use Rattle.pr_expand_spec.specs.declared.givens.Standing.{Standing}
use Rattle.pr_expand_spec.specs.Making.{Equations, Expanded, constant, lawful, made, with_equation}
use Rattle.pr_expand_spec.specs.Expressions.{AllExpanded, all_made, assigned, called, declared_at_operator, earlier}
use Rattle.pr_expand_spec.specs.Expressions.{function_of, place, plan_of}
use Rattle.pr_expand_spec.specs.Statements.{Progress, change_of, changes_of, let_change, rec_change}
use Rattle.pr_expand_spec.specs.Statements.{turns, with_index, with_standing}
use Rattle.pr_expand_spec.specs.Programs.{input_width, no_streams, with_arguments}
use Rattle.pr_expand.specs.declared.environment.Environment.{Environment}
use Rattle.pr_expand.specs.declared.ledgers.AllExpanded as all
use Rattle.pr_expand.specs.declared.ledgers.Ledger.{Ledger}
use Rattle.pr_expand.specs.declared.ledgers.Progress as progress
use Rattle.pr_expand.specs.declared.ledgers.Expanded as one
use Rattle.pr_expand.specs.Code.{all_of, made_of, progress_of, shapes_in, streams_in}
use Rattle.pr_expand.specs.Descents.{rest_of}
use Rattle.pr_expand.specs.Scopes.{defined, visible_at, visible_in}

-- one equation more, and its operand
abbrev pub added : EquationShape → Bool → Equations → Expanded
added e signed es = made (es ++ e ∷ []) (Eq (length es)) signed

-- what an instance stands for
abbrev pub standing_in : Statics → Environment → Ref → Option Standing
standing_in statics env target = streams_in env target.name (place target (known_in statics))

abbrev pub earlier_made : Fixed → Statics → Option Standing → Ledger → Expanded
earlier_made back statics standing ledger = earlier (constant back (known_in statics)) standing (shapes_in ledger)

-- ---- expressions

abbrev pub expr_made : Expr → List Item → Statics → Environment → Ledger → Expanded
expr_made e items statics env ledger = (plan_of e).making (visible_in items statics) (streams_in env) (shapes_in ledger)

-- an expression whose first operand is made
abbrev pub rest_made : Expr → List Item → Statics → Environment → one.Expanded → Expanded
rest_made e items statics env first = rest_of e (visible_in items statics) (streams_in env) (made_of first)

abbrev pub exprs_made : List Expr → List Item → Statics → Environment → Ledger → AllExpanded
exprs_made exprs items statics env ledger =
    all_made (map plan_of exprs) (visible_in items statics) (streams_in env) (shapes_in ledger)

-- a value under its declared width
abbrev pub value_made : Option ℕ → Expr → List Item → Statics → Environment → Ledger → Expanded
value_made width e items statics env ledger =
    assigned width e (visible_in items statics) (streams_in env) (shapes_in ledger)

-- the body of a recurrence, on these equations
abbrev pub recurring : Option ℕ → Expr → List Item → Statics → Environment → Equations → Expanded
recurring width e items statics env es =
    let plan = plan_of e in
    declared_at_operator plan.is_operator (lawful width) (plan.making (visible_in items statics) (streams_in env) es)

-- ---- calls

abbrev pub call_made : List ℕ → List Item → Statics → all.AllExpanded → Expanded
call_made name items statics args =
    called (function_of (known_in statics name) ((visible_in items statics).functions name)) (all_of args)

abbrev pub item_called : Option Item → List Item → Statics → all.AllExpanded → Expanded
item_called item items statics args = defined item (visible_in items statics) args.given.items (shapes_in args.ledger)

abbrev pub arguments_made : List Param → all.AllExpanded → Progress
arguments_made params args =
    with_arguments params args.given.items (record { streams = no_streams; equations = shapes_in args.ledger })

-- the statements of a body, and its result under the declared width
abbrev pub body_run : List Stmt → Option ℕ → Expr → List Item → Statics → progress.Progress → Expanded
body_run body width last items statics begun =
    let ended = changes_of body (visible_in items statics) (progress_of begun) in
    assigned width last (visible_in items statics) ended.streams ended.equations

-- ---- statements

-- an instance that stands for this from now on
abbrev pub stood : List ℕ → Option ℕ → Standing → Environment → Ledger → Progress
stood name at standing env ledger =
    record { streams = with_standing name at standing (streams_in env); equations = shapes_in ledger }

abbrev pub stmts_made : List Stmt → List Item → Statics → progress.Progress → Progress
stmts_made stmts items statics begun = changes_of stmts (visible_in items statics) (progress_of begun)

abbrev pub stmt_made : Stmt → List Item → Statics → progress.Progress → Progress
stmt_made stmt items statics begun = change_of stmt (visible_in items statics) (progress_of begun)

-- one turn of a loop, with the index at this value
abbrev pub turn_made : List ℕ → ℕ → List Stmt → List Item → Statics → progress.Progress → Progress
turn_made index at body items statics begun =
    changes_of body (with_index index at (visible_in items statics)) (progress_of begun)

-- the turns of a loop, up to the one before `to`
abbrev pub turns_made : List ℕ → ℕ → ℕ → List Stmt → List Item → Statics → progress.Progress → Progress
turns_made index from to body items statics begun =
    turns (to - from) from (λ at. changes_of body (with_index index at (visible_in items statics))) (progress_of begun)

abbrev pub let_made : Ref → Option ℕ → Expr → List Item → Statics → progress.Progress → Progress
let_made target width e items statics begun = let_change target width e (visible_in items statics) (progress_of begun)

abbrev pub rec_made : Ref → Option ℕ → Fixed → Expr → List Item → Statics → progress.Progress → Progress
rec_made target width init e items statics begun =
    rec_change target width init e (visible_in items statics) (progress_of begun)

-- ---- items

abbrev pub input_made : ℕ → progress.Progress → Expanded
input_made width begun = with_equation Input [] (Some (input_width width)) (progress_of begun).equations

abbrev pub output_made : Option ℕ → Expr → List Item → ℕ → progress.Progress → Expanded
output_made width e items number begun =
    let now = progress_of begun in
    assigned width e (visible_at items number) now.streams now.equations
