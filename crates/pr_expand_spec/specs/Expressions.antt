-- The equations of an expression: those of its parts from left to right, then its own.
use Rattle.std.specs.Prelude.{ℕ, Bool, false, true, cond, ◌&&◌, nat_le, List, [], ◌∷◌, ◌++◌, map, length, Option, Some, None, Result}
use Rattle.std.specs.Option.{option_and_then, option_map_or, unwrap_or}
use Rattle.std.specs.Result.{result_ok}
use Rattle.pr_lang.specs.declared.trees.BinOp.{BinOp}
use Rattle.pr_lang.specs.declared.trees.Expr.{Expr}
use Rattle.pr_lang.specs.declared.trees.Expr.TheOpen.{Expr-F}
use Rattle.pr_lang.specs.declared.trees.Expr.TheFolds.{fold-Expr}
use Rattle.pr_lang.specs.declared.trees.Ref.{Ref}
use Rattle.pr_scope_names.specs.declared.names.Static.{Static}
use Rattle.pr_scope_names.specs.declared.names.Static.TheVariants.{Function}
use Rattle.pr_scope_names.specs.Names.{Known}
use Rattle.pr_scope_names.specs.Constants.{read, place_of}
use Rattle.pr_scope_names.specs.Amounts.{Amount, amount_step}
use Rattle.pr_flat.specs.declared.equations.Operand.{Operand}
use Rattle.pr_flat.specs.declared.equations.Operand.TheVariants.{Const, Past}
use Rattle.pr_flat.specs.declared.equations.Op.{Op}
use Rattle.pr_flat.specs.declared.equations.Op.TheVariants as op
use Rattle.pr_lang_meaning.specs.Expressions.{operator, constant_shift}
use Rattle.pr_expand_spec.specs.declared.givens.Given.{Given}
use Rattle.pr_expand_spec.specs.declared.givens.Standing.{Standing}
use Rattle.pr_expand_spec.specs.declared.givens.Standing.TheVariants.{Stream, Own}
use Rattle.pr_expand_spec.specs.Making.{Equations, Expanded, made, with_equation, lawful, fitted, declare_last, delayed, constant}

abbrev pub Streams : Type 0
Streams = List ℕ → Option ℕ → Option Standing

-- a function makes the equations of its body anew at each call
abbrev pub Inlined : Type 0
Inlined = List Given → Equations → Expanded

pub record Visible : Type 0 where
  pub known : Known
  pub functions : List ℕ → Option Inlined

abbrev pub Making : Type 0
Making = Visible → Streams → Equations → Expanded

-- an expression: its equations, its value where it is a constant shift's amount, and whether it is an operator, so that its last equation
-- is its own
pub record ExprPlan : Type 0 where
  pub making : Making
  pub amount : Amount
  pub is_operator : Bool

abbrev pub place : Ref → Known → Option ℕ
place r known = unwrap_or (result_ok (place_of r known)) None

-- a name without `@`
abbrev pub referred : Option Static → Option ℕ → Option Standing → Equations → Expanded
referred (Some static) at standing equations = made equations (Const (unwrap_or (result_ok (read (Some static) at)) 0)) false
referred None at (Some (Stream g c)) equations = made equations g.operand g.signed
referred None at _ equations = made equations (Const 0) false

-- a recurrence's own past begins one sample earlier
abbrev pub own_past : ℕ → ℕ → Operand
own_past number k = cond (nat_le 1 k && nat_le k 256) (Past number k) (Const 0)

-- a name under `@`
abbrev pub earlier : ℕ → Option Standing → Equations → Expanded
earlier k (Some (Stream g c)) equations = delayed k g c equations
earlier k (Some (Own number)) equations = made equations (own_past number k) false
earlier k None equations = made equations (Const 0) false

-- all parts, one after the other
pub record AllExpanded : Type 0 where
  pub equations : Equations
  pub given : List Given

abbrev pub all_made : List ExprPlan → Visible → Streams → Equations → AllExpanded
all_made [] v env equations = record { equations = equations; given = [] }
all_made (p ∷ ps) v env equations =
    let first = p.making v env equations in
    let rest = all_made ps v env first.equations in
    record { equations = rest.equations; given = first.given ∷ rest.given }

abbrev pub apply : Op → AllExpanded → Expanded
apply o parts = with_equation o parts.given None parts.equations

abbrev pub combined : BinOp → Option Op → ExprPlan → ExprPlan → Visible → Streams → Equations → Expanded
combined o (Some shift) a b v env equations = apply shift (all_made (a ∷ []) v env equations)
combined o None a b v env equations = apply (operator o) (all_made (a ∷ b ∷ []) v env equations)

-- parts beside what stands above them
abbrev pub beside : Expanded → List Given → Expanded
beside above [] = above
beside above (g ∷ gs) = beside (with_equation op.Cat (above.given ∷ g ∷ []) None above.equations) gs

abbrev pub concatenated : List Given → Equations → Expanded
concatenated [] equations = made equations (Const 0) false
concatenated (g ∷ gs) equations = beside (made equations g.operand false) gs

-- what a name stands for where it is called
abbrev pub function_of : Option Static → Option Inlined → Option Inlined
function_of (Some (Function f)) known = known
function_of _ known = None

abbrev pub called : Option Inlined → AllExpanded → Expanded
called (Some f) args = f args.given args.equations
called None args = made args.equations (Const 0) false

abbrev pub making_step : Expr-F ExprPlan → Making
making_step (Expr-F.Number n) v env equations = made equations (Const n) false
making_step (Expr-F.Refer r) v env equations = let at = place r v.known in referred (v.known r.name) at (env r.name at) equations
making_step (Expr-F.Delay r k) v env equations = earlier (constant k v.known) (env r.name (place r v.known)) equations
making_step (Expr-F.Slice e high low) v env equations =
    apply (op.Slice (constant high v.known) (constant low v.known)) (all_made (e.value ∷ []) v env equations)
making_step (Expr-F.Not e) v env equations = apply op.Not (all_made (e.value ∷ []) v env equations)
making_step (Expr-F.Binary o a b) v env equations = combined o (constant_shift o (b.value.amount v.known)) a.value b.value v env equations
making_step (Expr-F.Choose c a b) v env equations = apply op.Choose (all_made (c.value ∷ a.value ∷ b.value ∷ []) v env equations)
making_step (Expr-F.Call name args) v env equations = called (function_of (v.known name) (v.functions name)) (all_made args.items v env equations)
making_step (Expr-F.Cat parts) v env equations = let all = all_made parts.items v env equations in concatenated all.given all.equations
making_step (Expr-F.Paren e) v env equations = e.value.making v env equations

abbrev pub is_operator_step : Expr-F ExprPlan → Bool
is_operator_step (Expr-F.Slice e high low) = true
is_operator_step (Expr-F.Not e) = true
is_operator_step (Expr-F.Binary o a b) = true
is_operator_step (Expr-F.Choose c a b) = true
is_operator_step (Expr-F.Cat parts) = nat_le 2 (length parts.items)
is_operator_step (Expr-F.Paren e) = e.value.is_operator
is_operator_step _ = false

abbrev pub plan_step : Expr-F ExprPlan → ExprPlan
plan_step e = record { making = making_step e; amount = amount_step (λ (p : ExprPlan). p.amount) e; is_operator = is_operator_step e }

abbrev pub plan_of : Expr → ExprPlan
plan_of = fold-Expr ExprPlan plan_step

abbrev pub made_with : Expanded → Equations → Expanded
made_with m equations = record { equations = equations; given = m.given }

-- an operator's own equation gets the declared width
abbrev pub declared_at_operator : Bool → Option ℕ → Expanded → Expanded
declared_at_operator true (Some w) m = made_with m (declare_last w m.equations)
declared_at_operator _ width m = m

-- any other expression gets an equation more for it
abbrev pub declared_else : Bool → Option ℕ → Expanded → Expanded
declared_else false (Some w) m = fitted w m.given m.equations
declared_else _ width m = m

abbrev pub assigned : Option ℕ → Expr → Making
assigned width e v env equations =
    let plan = plan_of e in
    declared_else plan.is_operator (lawful width) (declared_at_operator plan.is_operator (lawful width) (plan.making v env equations))
