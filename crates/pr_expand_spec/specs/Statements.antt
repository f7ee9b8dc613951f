-- The equations of statements, in text order and with loops unrolled.
use Rattle.std.specs.Prelude.{ℕ, zero, suc, ◌+◌, ◌-◌, Bool, false, true, cond, ◌&&◌, nat_le, List, [], ◌∷◌, ◌++◌, map, length, Option, Some, None, bytes_eq}
use Rattle.pr_lang.specs.declared.trees.Fixed.{Fixed}
use Rattle.pr_lang.specs.declared.trees.Ref.{Ref}
use Rattle.pr_lang.specs.declared.trees.Expr.{Expr}
use Rattle.pr_lang.specs.declared.trees.Stmt.{Stmt}
use Rattle.pr_lang.specs.declared.trees.Stmt.TheOpen.{Stmt-F}
use Rattle.pr_lang.specs.declared.trees.Stmt.TheFolds.{fold-Stmt}
use Rattle.pr_scope_names.specs.declared.names.Static.TheVariants.{Index}
use Rattle.pr_scope_names.specs.Names.{bind, same_place}
use Rattle.pr_flat.specs.declared.equations.Operand.TheVariants.{Eq}
use Rattle.pr_flat.specs.declared.equations.Op.TheVariants.{Rec}
use Rattle.pr_expand_spec.specs.declared.givens.Given.{Given}
use Rattle.pr_expand_spec.specs.declared.givens.Standing.{Standing}
use Rattle.pr_expand_spec.specs.declared.givens.Standing.TheVariants.{Stream, Own}
use Rattle.pr_expand_spec.specs.Making.{Equations, Expanded, with_equation, lawful, constant}
use Rattle.pr_expand_spec.specs.Expressions.{Streams, Visible, plan_of, declared_at_operator, assigned, place}

-- the streams that are assigned, and the equations so far
pub record Progress : Type 0 where
  pub streams : Streams
  pub equations : Equations

abbrev pub Change : Type 0
Change = Visible → Progress → Progress

abbrev pub with_standing : List ℕ → Option ℕ → Standing → Streams → Streams
with_standing name at s env = λ q r. cond (bytes_eq name q && same_place at r) (Some s) (env q r)

-- a name that is assigned is 0 before its first sample
abbrev pub named : List ℕ → Option ℕ → Streams → Expanded → Progress
named name at env m = record { streams = with_standing name at (Stream m.given 0) env; equations = m.equations }

abbrev pub let_change : Ref → Option ℕ → Expr → Change
let_change target width e v s = named target.name (place target v.known) s.streams (assigned width e v s.streams s.equations)

-- the body, where the recurrence is to have this number; it gets the declared width, but no equation for it alone
abbrev pub body_made : List ℕ → Option ℕ → Option ℕ → Expr → ℕ → Visible → Progress → Expanded
body_made name at width e number v s =
    let plan = plan_of e in
    declared_at_operator plan.is_operator (lawful width) (plan.making v (with_standing name at (Own number) s.streams) s.equations)

-- the number of equations that the body makes does not depend on the recurrence's number, which comes after them
abbrev pub number_after : List ℕ → Option ℕ → Option ℕ → Expr → Visible → Progress → ℕ
number_after name at width e v s = length (body_made name at width e 0 v s).equations

abbrev pub with_recurrence : List ℕ → Option ℕ → Option ℕ → ℕ → Progress → Expanded → Progress
with_recurrence name at width init s body =
    let m = with_equation (Rec init (length s.equations)) (body.given ∷ []) (lawful width) body.equations in
    record { streams = with_standing name at (Stream (record { operand = m.given.operand; signed = false }) init) s.streams; equations = m.equations }

-- The body that is made under the recurrence's number. Only where it had fewer equations than the one that was counted would that
-- one stand: in a program that keeps the rules of scope both have as many.
abbrev pub settled : Expanded → Expanded → Expanded
settled counted body = cond (nat_le (length counted.equations) (length body.equations)) body counted

abbrev pub rec_change : Ref → Option ℕ → Fixed → Expr → Change
rec_change target width init e v s =
    let at = place target v.known in
    with_recurrence target.name at width (constant init v.known) s (settled (body_made target.name at width e 0 v s) (body_made target.name at width e (number_after target.name at width e v s) v s))

abbrev pub in_turn : List Change → Change
in_turn [] v s = s
in_turn (f ∷ fs) v s = in_turn fs v (f v s)

abbrev pub with_index : List ℕ → ℕ → Visible → Visible
with_index index at v = record { known = bind index (Index at) v.known; functions = v.functions }

abbrev pub turns : ℕ → ℕ → (ℕ → Progress → Progress) → Progress → Progress
turns zero at f s = s
turns (suc k) at f s = turns k (at + 1) f (f at s)

abbrev pub stmt_step : Stmt-F Change → Change
stmt_step (Stmt-F.Let target width e) v s = let_change target width e v s
stmt_step (Stmt-F.Rec target width init e) v s = rec_change target width init e v s
stmt_step (Stmt-F.For index low high body) v s =
    let from = constant low v.known in
    turns (constant high v.known - from) from (λ at. in_turn body.items (with_index index at v)) s

abbrev pub change_of : Stmt → Change
change_of = fold-Stmt Change stmt_step

abbrev pub changes_of : List Stmt → Change
changes_of stmts = in_turn (map change_of stmts)
