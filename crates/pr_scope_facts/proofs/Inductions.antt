-- Induction over expressions and statements, for the walk, the meaning and the equations at once: a layer is computed on all sides.
use mathlib.Core.Path.{transport}
use Rattle.std.proofs.Common.{◌≡◌, Bool, refl, sym, subst}
use Rattle.pr_lang.specs.declared.trees.Expr.{Expr, map-Expr}
use Rattle.pr_lang.specs.declared.trees.Expr.TheOpen.{Expr-F}
use Rattle.pr_lang.specs.declared.trees.Expr.TheFolds.{fold-roll-Expr, ind-Expr}
use Rattle.pr_lang.specs.declared.trees.Stmt.{Stmt, map-Stmt}
use Rattle.pr_lang.specs.declared.trees.Stmt.TheOpen.{Stmt-F}
use Rattle.pr_lang.specs.declared.trees.Stmt.TheFolds.{fold-roll-Stmt, ind-Stmt}
use Rattle.pr_scope_names.specs.Names.{Known}
use Rattle.pr_scope_names.specs.Amounts.{amount_of}
use Rattle.pr_scope_names.proofs.Folds.{amount_kept}
use Rattle.pr_scope.specs.Expressions.{Reading, reading, reading_step, past_of, past_step}
use Rattle.pr_scope.specs.Statements as scope
use Rattle.pr_lang_meaning.specs.Expressions.{Sense, sense_of, sense_step}
use Rattle.pr_lang_meaning.specs.Statements as meaning
use Rattle.pr_expand_spec.specs.Expressions.{ExprPlan, plan_of, plan_step}
use Rattle.pr_expand_spec.specs.Statements as equations

-- a fact of an expression's walk, meaning and equations, and of whether its text has `@`
abbrev pub ExprFact : Type 1
ExprFact = Reading → Sense → ExprPlan → (Known → Bool) → Type 0

abbrev pub OfExpr : ExprFact → Expr → Type 0
OfExpr P e = P (reading e) (sense_of e) (plan_of e) (past_of e)

-- an expression, beside its fact
abbrev pub ProvedExpr : ExprFact → Type 0
ProvedExpr P = (e : Expr) × OfExpr P e

abbrev layer_of : ExprFact → Expr-F Expr → Type 0
layer_of P x = P (reading_step (map-Expr Expr Reading reading x)) (sense_step (map-Expr Expr Sense sense_of x)) (plan_step (map-Expr Expr ExprPlan plan_of x)) (past_step (map-Expr Expr (Known → Bool) past_of x))

-- the fact of a layer, where those of its parts stand beside them
abbrev pub ExprLayer : (P : ExprFact) → Expr-F (ProvedExpr P) → Type 0
ExprLayer P y = layer_of P (map-Expr (ProvedExpr P) Expr (λ p. p.0) y)

pub each-expression : (P : ExprFact) → ((y : Expr-F (ProvedExpr P)) → ExprLayer P y) → (e : Expr) → OfExpr P e
each-expression P step = ind-Expr (OfExpr P) (λ x y is.
    let layer : layer_of P x = subst (layer_of P) is (step y) in
    transport (λ i. P (sym (fold-roll-Expr Reading reading_step x) i) (sym (fold-roll-Expr Sense sense_step x) i) (sym (fold-roll-Expr ExprPlan plan_step x) i) (sym (fold-roll-Expr (Known → Bool) past_step x) i)) layer)

-- a fact of what a statement does in the walk, in the meaning and in the equations, and of whether its text has `@` or `rec`
abbrev pub StmtFact : Type 1
StmtFact = scope.Change → meaning.Change → equations.Change → (Known → Bool) → Type 0

abbrev pub OfStmt : StmtFact → Stmt → Type 0
OfStmt P s = P (scope.change_of s) (meaning.change_of s) (equations.change_of s) (scope.stmt_past_of s)

-- a statement, beside its fact
abbrev pub ProvedStmt : StmtFact → Type 0
ProvedStmt P = (s : Stmt) × OfStmt P s

abbrev stmt_layer_of : StmtFact → Stmt-F Stmt → Type 0
stmt_layer_of P x = P (scope.stmt_step (map-Stmt Stmt scope.Change scope.change_of x)) (meaning.stmt_step (map-Stmt Stmt meaning.Change meaning.change_of x)) (equations.stmt_step (map-Stmt Stmt equations.Change equations.change_of x)) (scope.stmt_past_step (map-Stmt Stmt (Known → Bool) scope.stmt_past_of x))

abbrev pub StmtLayer : (P : StmtFact) → Stmt-F (ProvedStmt P) → Type 0
StmtLayer P y = stmt_layer_of P (map-Stmt (ProvedStmt P) Stmt (λ p. p.0) y)

pub each-statement : (P : StmtFact) → ((y : Stmt-F (ProvedStmt P)) → StmtLayer P y) → (s : Stmt) → OfStmt P s
each-statement P step = ind-Stmt (OfStmt P) (λ x y is.
    let layer : stmt_layer_of P x = subst (stmt_layer_of P) is (step y) in
    transport (λ i. P (sym (fold-roll-Stmt scope.Change scope.stmt_step x) i) (sym (fold-roll-Stmt meaning.Change meaning.stmt_step x) i) (sym (fold-roll-Stmt equations.Change equations.stmt_step x) i) (sym (fold-roll-Stmt (Known → Bool) scope.stmt_past_step x) i)) layer)

-- ---- the value that all have of a constant shift's amount
pub sense_amount : (e : Expr) → (sense_of e).amount ≡ amount_of e
sense_amount = amount_kept Sense sense_step (λ s. s.amount) (λ x. refl)

pub plan_amount : (e : Expr) → (plan_of e).amount ≡ amount_of e
plan_amount = amount_kept ExprPlan plan_step (λ p. p.amount) (λ x. refl)
