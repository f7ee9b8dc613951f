-- The way down the first operands of an expression, and what is made on the way back.
use Rattle.std.specs.Prelude.{◌≡◌, [], ◌∷◌, List, Option, Some, None}
use Rattle.pr_lang.specs.declared.trees.BinOp.{BinOp}
use Rattle.pr_lang.specs.declared.trees.Expr.{Expr, out-Expr}
use Rattle.pr_lang.specs.declared.trees.Expr.TheOpen.{Expr-F}
use Rattle.pr_scope_names.specs.Amounts.{amount_of}
use Rattle.pr_flat.specs.declared.equations.Op.{Op}
use Rattle.pr_flat.specs.declared.equations.Op.TheVariants as op
use Rattle.pr_lang_meaning.specs.Expressions.{constant_shift, operator}
use Rattle.pr_expand_spec.specs.Making.{Equations, Expanded, constant, with_equation}
use Rattle.pr_expand_spec.specs.Expressions.{Streams, Visible, plan_of}

abbrev pub making : Expr → Visible → Streams → Equations → Expanded
making e = (plan_of e).making

abbrev pub first_step : Expr-F Expr → Option Expr
first_step (Expr-F.Slice e high low) = Some e.value
first_step (Expr-F.Not e) = Some e.value
first_step (Expr-F.Binary o a b) = Some a.value
first_step (Expr-F.Choose c a b) = Some c.value
first_step (Expr-F.Paren e) = Some e.value
first_step _ = None

-- the operand that is made before the others
abbrev pub first_in : Expr → Option Expr
first_in e = first_step (out-Expr e)

-- from an expression down to another one: each that stands between is the first operand of the one before it
pub data IsWay : Expr → List Expr → Expr → Type 0 where
  here : (e : Expr) → IsWay e [] e
  down : (e x : Expr) (es : List Expr) (inner : Expr) → first_in e ≡ Some x → IsWay x es inner → IsWay e (e ∷ es) inner

abbrev pub on_one : Op → Expanded → Expanded
on_one p x = with_equation p (x.given ∷ []) None x.equations

abbrev pub on_two : Op → Expanded → Expanded → Expanded
on_two p x y = with_equation p (x.given ∷ y.given ∷ []) None y.equations

abbrev pub on_three : Expanded → Expanded → Expanded → Expanded
on_three x y z = with_equation op.Choose (x.given ∷ y.given ∷ z.given ∷ []) None z.equations

-- an operator, where its first operand is made: a shift by a constant, or one with a second operand
abbrev pub operated : BinOp → Option Op → Expr → Visible → Streams → Expanded → Expanded
operated o (Some shift) b v env x = on_one shift x
operated o None b v env x = on_two (operator o) x (making b v env x.equations)

abbrev pub chosen : Expr → Expr → Visible → Streams → Expanded → Expanded
chosen a b v env x =
    let y = making a v env x.equations in
    on_three x y (making b v env y.equations)

abbrev pub rest_step : Expr-F Expr → Visible → Streams → Expanded → Expanded
rest_step (Expr-F.Slice e high low) v env x = on_one (op.Slice (constant high v.known) (constant low v.known)) x
rest_step (Expr-F.Not e) v env x = on_one op.Not x
rest_step (Expr-F.Binary o a b) v env x = operated o (constant_shift o (amount_of b.value v.known)) b.value v env x
rest_step (Expr-F.Choose c a b) v env x = chosen a.value b.value v env x
rest_step _ v env x = x

-- the rest of an expression, where its first operand is made
abbrev pub rest_of : Expr → Visible → Streams → Expanded → Expanded
rest_of e = rest_step (out-Expr e)
