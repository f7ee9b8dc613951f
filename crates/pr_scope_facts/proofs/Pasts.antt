-- Whether a text looks back depends on the functions alone that look back, and so not on a loop's index.
use Rattle.std.proofs.Common.{◌≡◌, ◌∙◌, ℕ, Bool, true, false, ◌||◌, bytes_eq, List, [], ◌∷◌, map, Some, None, inl, inr, ◌⊎◌, refl, sym, ap, ap₂}
use Rattle.std.proofs.lemmas.Bool.{cases_Bool, cond-true, cond-false}
use Rattle.pr_lang.specs.declared.trees.Expr.{Expr}
use Rattle.pr_lang.specs.declared.trees.Expr.TheOpen.{Expr-F}
use Rattle.pr_lang.specs.declared.trees.Stmt.{Stmt}
use Rattle.pr_lang.specs.declared.trees.Stmt.TheOpen.{Stmt-F}
use Rattle.pr_scope_names.specs.declared.names.Static.TheVariants.{Index}
use Rattle.pr_scope_names.specs.Names.{Known, bind}
use Rattle.std.specs.Cmp.Lexicographic.{bytes_decides}
use Rattle.pr_scope.specs.Expressions.{past_of, pasts_of, is_past}
use Rattle.pr_scope.specs.Statements.{stmt_past_of, stmts_past_of}
use Rattle.pr_scope_facts.proofs.Inductions.{ExprFact, ProvedExpr, ExprLayer, StmtFact, ProvedStmt, StmtLayer, each-expression, each-statement}

-- the same functions look back
pub record SamePasts (known other : Known) : Type 0 where
  pub at : (name : List ℕ) → is_past (other name) ≡ is_past (known name)

abbrev PastSame : (Known → Bool) → Type 0
PastSame f = (known other : Known) → SamePasts known other → f other ≡ f known

abbrev PastFact : ExprFact
PastFact = λ walk mean plan past. PastSame past

abbrev Proved : Type 0
Proved = ProvedExpr PastFact

pasts-same : (es : List Proved) → PastSame (pasts_of (map past_of (map (λ (p : Proved). p.0) es)))
pasts-same [] known other same = refl
pasts-same (e ∷ es) known other same = ap₂ (λ a b. a || b) (e.1 known other same) (pasts-same es known other same)

past-layer : (y : Expr-F Proved) → ExprLayer PastFact y
past-layer (Expr-F.Number n) known other same = refl
past-layer (Expr-F.Refer r) known other same = refl
past-layer (Expr-F.Delay r k) known other same = refl
past-layer (Expr-F.Slice e high low) known other same = e.value.1 known other same
past-layer (Expr-F.Not e) known other same = e.value.1 known other same
past-layer (Expr-F.Binary o a b) known other same = ap₂ (λ x y. x || y) (a.value.1 known other same) (b.value.1 known other same)
past-layer (Expr-F.Choose e a b) known other same = ap₂ (λ x y. x || y) (ap₂ (λ x y. x || y) (e.value.1 known other same) (a.value.1 known other same)) (b.value.1 known other same)
past-layer (Expr-F.Call name args) known other same = ap₂ (λ x y. x || y) (same.at name) (pasts-same args.items known other same)
past-layer (Expr-F.Cat parts) known other same = pasts-same parts.items known other same
past-layer (Expr-F.Paren e) known other same = e.value.1 known other same

pub past-same : (e : Expr) → PastSame (past_of e)
past-same = each-expression PastFact past-layer

abbrev StmtPastFact : StmtFact
StmtPastFact = λ walk mean make past. PastSame past

abbrev ProvedStatement : Type 0
ProvedStatement = ProvedStmt StmtPastFact

stmts-same : (ss : List ProvedStatement) → PastSame (pasts_of (map stmt_past_of (map (λ (p : ProvedStatement). p.0) ss)))
stmts-same [] known other same = refl
stmts-same (s ∷ ss) known other same = ap₂ (λ a b. a || b) (s.1 known other same) (stmts-same ss known other same)

stmt-layer : (y : Stmt-F ProvedStatement) → StmtLayer StmtPastFact y
stmt-layer (Stmt-F.Let target width e) known other same = past-same e known other same
stmt-layer (Stmt-F.Rec target width init e) known other same = refl
stmt-layer (Stmt-F.For index low high body) known other same = stmts-same body.items known other same

stmt-same : (s : Stmt) → PastSame (stmt_past_of s)
stmt-same = each-statement StmtPastFact stmt-layer

pub stmts-past-same : (ss : List Stmt) → PastSame (stmts_past_of ss)
stmts-past-same [] known other same = refl
stmts-past-same (s ∷ ss) known other same = ap₂ (λ a b. a || b) (stmt-same s known other same) (stmts-past-same ss known other same)

-- an index looks back as little as a name that stands for nothing
pub index-pasts : (known : Known) (index : List ℕ) (at : ℕ) → known index ≡ None → SamePasts known (bind index (Index at) known)
index-pasts known index at none = record { at = λ q. by_name q (cases_Bool (bytes_eq index q)) } where
  by_name : (q : List ℕ) → (bytes_eq index q ≡ true) ⊎ (bytes_eq index q ≡ false) → is_past (bind index (Index at) known q) ≡ is_past (known q)
  by_name q (inl same) = ap is_past (cond-true (bytes_eq index q) (Some (Index at)) (known q) same) ∙ sym (ap is_past (ap known (sym ((bytes_decides index q).0 same)) ∙ none))
  by_name q (inr other) = ap is_past (cond-false (bytes_eq index q) (Some (Index at)) (known q) other)

-- so a loop's body looks back at each turn as it does before
pub turn-past : (ss : List Stmt) (known : Known) (index : List ℕ) (at : ℕ) → known index ≡ None → stmts_past_of ss (bind index (Index at) known) ≡ stmts_past_of ss known
turn-past ss known index at none = stmts-past-same ss known (bind index (Index at) known) (index-pasts known index at none)
