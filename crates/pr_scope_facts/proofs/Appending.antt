-- Making only appends: the equations so far stand at the front of those after any expression, statement or item.
use Rattle.std.proofs.Common.{◌≡◌, ◌∙◌, ℕ, zero, suc, ◌+◌, ◌≤◌, List, [], ◌∷◌, ◌++◌, length, Option, Some, None, refl, sym, ap, arith, length-append, append_assoc, slice_get}
use Rattle.std.specs.Option.{IfSome}
use Rattle.std.specs.List.{AllByRecursion}
use Rattle.std.proofs.lemmas.List.{append-nil}
use Rattle.pr_lang.specs.declared.trees.Param.{Param}
use Rattle.pr_lang.specs.declared.trees.Expr.{Expr}
use Rattle.pr_lang.specs.declared.trees.Stmt.{Stmt}
use Rattle.pr_lang.specs.declared.trees.Item.{Item}
use Rattle.pr_lang.specs.declared.trees.Item.TheVariants as item
use Rattle.pr_flat.specs.declared.equations.Op.{Op}
use Rattle.pr_flat.specs.declared.equations.Op.TheVariants as op
use Rattle.pr_flat.specs.Shape.{EquationShape}
use Rattle.pr_expand_spec.specs.declared.givens.Given.{Given}
use Rattle.pr_expand_spec.specs.Making.{Equations, with_equation, delayed}
use Rattle.pr_expand_spec.specs.Expressions.{Streams, Inlined, Visible, function_of, plan_of, assigned}
use Rattle.pr_expand_spec.specs.Statements.{Progress, with_index, body_made, change_of, changes_of}
use Rattle.pr_expand_spec.specs.Programs.{passed, with_arguments, inlined, signed_function, World, start, input_width, item_change, items_change}
pub use Rattle.pr_scope_facts.proofs.Adding.{declared-with}
use Rattle.pr_scope_facts.proofs.Adding.{Adds, adds-index, adds-arguments, adds-passed, adds-any, adds-making, Covers, DoesAdd, AllAdd, adds-delayed, adds-assigned, adds-body, adds-change, adds-changes, adds-inlined, adds-signed, adds-start, adds-visible}

pub record Appends (old new : Equations) : Type 0 where
  pub more : Equations
  pub is : new ≡ old ++ more

pub appends-nothing : (es : Equations) → Appends es es
appends-nothing es = record { more = []; is = sym (append-nil es) }

pub appends-both : (a b c : Equations) → Appends a b → Appends b c → Appends a c
appends-both a b c one two = record { more = one.more ++ two.more; is = two.is ∙ (ap (λ (x : Equations). x ++ two.more) one.is ∙ append_assoc a one.more two.more) }

pub appends-length : (old new : Equations) → Appends old new → length old ≤ length new
appends-length old new a = let e : length new ≡ length old + length a.more = ap length a.is ∙ length-append old a.more in omega (arith, e)

at-front : (xs ys : Equations) (i : ℕ) (e : EquationShape) → slice_get xs i ≡ Some e → slice_get (xs ++ ys) i ≡ Some e
at-front [] ys i e there = cc
at-front (x ∷ xs) ys zero e there = there
at-front (x ∷ xs) ys (suc i) e there = at-front xs ys i e there

-- an equation keeps its number
pub appends-at : (old new : Equations) → Appends old new → (i : ℕ) (e : EquationShape) → slice_get old i ≡ Some e → slice_get new i ≡ Some e
appends-at old new a i e there = rw a.is (at-front old a.more i e there)

pub appends-with : (o : Op) (args : List Given) (width : Option ℕ) (es : Equations) → Appends es (with_equation o args width es).equations
appends-with o args width es = record { more = _; is = refl }

-- ---- equations of which nothing more is said
abbrev Any : Op → Type 0
Any o = Unit {0}

pub adds-appends : (P : Op → Type 0) (old new : Equations) → Adds P old new → Appends old new
adds-appends P old new adds = record { more = adds.more; is = adds.is }

each-any : (es : Equations) → AllByRecursion (λ (e : EquationShape). Any e.op) es
each-any [] = tt
each-any (e ∷ es) = (tt, each-any es)

any-adds : (old new : Equations) → Appends old new → Adds Any old new
any-adds old new a = record { more = a.more; is = a.is; each = each-any a.more }

covers-any : Covers Any
covers-any = record { others = λ o is. tt }

-- ---- functions
abbrev pub DoesAppend : Inlined → Type 0
DoesAppend f = (args : List Given) (es : Equations) → Appends es (f args es).equations

-- each function that is visible only appends
pub record AllAppend (v : Visible) : Type 0 where
  pub at : (name : List ℕ) → IfSome (function_of (v.known name) (v.functions name)) DoesAppend

function-adds : (f : Option Inlined) → IfSome f DoesAppend → IfSome f (DoesAdd Any)
function-adds None does = tt
function-adds (Some f) does = λ args es. any-adds es (f args es).equations (does args es)

function-appends : (f : Option Inlined) → IfSome f (DoesAdd Any) → IfSome f DoesAppend
function-appends None does = tt
function-appends (Some f) does = λ args es. adds-appends Any es (f args es).equations (does args es)

all-add : (v : Visible) → AllAppend v → AllAdd Any v
all-add v fs = record { at = λ q. function-adds (function_of (v.known q) (v.functions q)) (fs.at q) }

all-append : (v : Visible) → AllAdd Any v → AllAppend v
all-append v fs = record { at = λ q. function-appends (function_of (v.known q) (v.functions q)) (fs.at q) }

-- ---- expressions, statements, functions and items
pub delayed-appends : (k : ℕ) (g : Given) (c : ℕ) (es : Equations) → Appends es (delayed k g c es).equations
delayed-appends k g c es = adds-appends Any es _ (adds-delayed Any c tt k g es)

pub making-appends : (v : Visible) → AllAppend v → (e : Expr) (env : Streams) (es : Equations) → Appends es ((plan_of e).making v env es).equations
making-appends v fs e env es = adds-appends Any es _ (adds-any Any (plan_of e).is_operator es ((plan_of e).making v env es) (adds-making Any covers-any v (all-add v fs) e env es))

pub assigned-appends : (v : Visible) → AllAppend v → (width : Option ℕ) (e : Expr) (env : Streams) (es : Equations) → Appends es (assigned width e v env es).equations
assigned-appends v fs width e env es = adds-appends Any es _ (adds-assigned Any covers-any v (all-add v fs) width e env es)

pub body-appends : (v : Visible) → AllAppend v → (name : List ℕ) (at width : Option ℕ) (e : Expr) (number : ℕ) (s : Progress) → Appends s.equations (body_made name at width e number v s).equations
body-appends v fs name at width e number s = adds-appends Any s.equations _ (adds-body Any covers-any v (all-add v fs) name at width e number s)

-- a loop's index is no function
pub append-index : (index : List ℕ) (at : ℕ) (v : Visible) → AllAppend v → AllAppend (with_index index at v)
append-index index at v fs = all-append (with_index index at v) (adds-index Any index at v (all-add v fs))

pub change-appends : (stmt : Stmt) (v : Visible) → AllAppend v → (s : Progress) → Appends s.equations (change_of stmt v s).equations
change-appends stmt v fs s = adds-appends Any s.equations _ (adds-change Any covers-any stmt v (all-add v fs) s)

pub changes-append : (ss : List Stmt) (v : Visible) → AllAppend v → (s : Progress) → Appends s.equations (changes_of ss v s).equations
changes-append ss v fs s = adds-appends Any s.equations _ (adds-changes Any covers-any ss v (all-add v fs) s)

pub passed-appends : (width : Option ℕ) (g : Given) (es : Equations) → Appends es (passed width g es).equations
passed-appends width g es = adds-appends Any es _ (adds-passed Any covers-any width g es)

pub arguments-append : (params : List Param) (gs : List Given) (s : Progress) → Appends s.equations (with_arguments params gs s).equations
arguments-append params gs s = adds-appends Any s.equations _ (adds-arguments Any covers-any params gs s)

pub inlined-appends : (params : List Param) (width : Option ℕ) (body : List Stmt) (result : Expr) (v : Visible) → AllAppend v → DoesAppend (inlined params width body result v)
inlined-appends params width body result v fs args es = adds-appends Any es _ (adds-inlined Any covers-any params width body result v (all-add v fs) args es)

pub signed-appends : DoesAppend signed_function
signed-appends args es = adds-appends Any es _ (adds-signed Any args es)

pub start-appends : AllAppend start.visible
start-appends = all-append start.visible (adds-start Any)

-- what is visible after an item only appends
pub visible-appends : (at : ℕ) (i : Item) (w : World) → AllAppend w.visible → AllAppend (item_change at i w).visible
visible-appends at i w fs = all-append (item_change at i w).visible (adds-visible Any covers-any at i w (all-add w.visible fs))

pub item-appends : (at : ℕ) (i : Item) (w : World) → AllAppend w.visible → Appends w.progress.equations (item_change at i w).progress.equations
item-appends at (item.Input name width) w fs = appends-with op.Input [] (Some (input_width width)) w.progress.equations
item-appends at (item.Output name width e) w fs = assigned-appends w.visible fs width e w.progress.streams w.progress.equations
item-appends at (item.Const name value) w fs = appends-nothing w.progress.equations
item-appends at (item.Table name values) w fs = appends-nothing w.progress.equations
item-appends at (item.Function name params width body result) w fs = appends-nothing w.progress.equations
item-appends at (item.Step stmt) w fs = change-appends stmt w.visible fs w.progress

pub items-append : (at : ℕ) (is : List Item) (w : World) → AllAppend w.visible → Appends w.progress.equations (items_change at is w).progress.equations
items-append at [] w fs = appends-nothing w.progress.equations
items-append at (i ∷ is) w fs =
    let next = item_change at i w in
    appends-both w.progress.equations next.progress.equations _ (item-appends at i w fs) (items-append (at + 1) is next (visible-appends at i w fs))
