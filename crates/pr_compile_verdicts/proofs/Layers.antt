-- Expressions and statements of parts that are there, with what is known of the parts.
use Rattle.std.proofs.Common.{◌≡◌, ◌^◌, ◌<◌, ℕ, Option, Some, None, Result, Ok, List, [], ◌∷◌, map, length, refl, sym, ◌∙◌, subst, arith}
use Rattle.std.specs.Global.{Box, Vec, Global}
use Rattle.std.specs.List.{AllByRecursion}
use Rattle.std.proofs.lemmas.Bool.{lt-ltb}
use denote.RawPtr.{null_ptr}
use Rattle.pr_lang.specs.declared.trees.BinOp.{BinOp}
use Rattle.pr_lang.specs.declared.trees.FixedOp.{FixedOp}
use Rattle.pr_lang.specs.declared.trees.Fixed.{Fixed, map-Fixed, roll-Fixed}
use Rattle.pr_lang.specs.declared.trees.Fixed.TheOpen.{Fixed-F}
use Rattle.pr_lang.specs.declared.trees.Fixed.TheFolds.{fold-roll-Fixed}
use Rattle.pr_lang.specs.declared.trees.Ref.{Ref}
use Rattle.pr_lang.specs.declared.trees.Expr.{Expr, map-Expr, roll-Expr}
use Rattle.pr_lang.specs.declared.trees.Expr.TheOpen.{Expr-F}
use Rattle.pr_lang.specs.declared.trees.Expr.TheFolds.{fold-roll-Expr}
use Rattle.pr_lang.specs.declared.trees.Stmt.{Stmt, map-Stmt, roll-Stmt}
use Rattle.pr_lang.specs.declared.trees.Stmt.TheOpen.{Stmt-F}
use Rattle.pr_lang.specs.declared.trees.Stmt.TheFolds.{fold-roll-Stmt}
use Rattle.pr_lang.specs.Tree.{Tree}
use Rattle.pr_lang.specs.Shape.{fixed_layer, fixed_shape, expr_layer, expr_shape, stmt_layer, stmt_shape}
use Rattle.pr_scope_names.specs.declared.rules.Offence.{Offence}
use Rattle.pr_scope_names.specs.Names.{Known}
use Rattle.pr_scope_names.specs.Outcomes.{and_then}
use Rattle.pr_scope_names.specs.Constants.{read, applied, fixed_step, constant_of}
use Rattle.pr_flat.specs.declared.equations.Op.TheVariants as op
use Rattle.pr_lang_meaning.specs.Expressions.{constant_shift}
use Rattle.pr_expand_spec.specs.Making.{constant}
use Rattle.pr_expand_spec.specs.Expressions.{ExprPlan, all_made, function_of, plan_of, plan_step, making_step, place}
use Rattle.pr_expand_spec.specs.Statements.{Change, change_of, stmt_step}
use Rattle.pr_compile_verdicts.proofs.Shorts.{ShortFixed, ShortKnown, IsShort, then-short, then-also, applied-short, read-short, ShortMaking, ShortExpr, ShortPlans, ShortStmt, ShortChange, referred-short, earlier-short, all-made-short, apply-short, combined-short, concatenated-short, called-short, function-short, let-short, rec-short, for-short, each-change}

-- ---- values on the heap, which may lie anywhere
abbrev pub anywhere : Global
anywhere = record { memory = record { seal = tt } }

abbrev pub boxed : {X : Type 0} → X → Box X
boxed x = record { ptr = null_ptr; alloc = anywhere; value = x }

abbrev pub row_of : {X : Type 0} (xs : List X) → length xs < 2 ^ 63 → Vec X
row_of xs few = record { ptr = null_ptr; len = length xs; cap = length xs; alloc = anywhere; items = xs; ok = (refl, omega arith); small = few }

-- ---- constant expressions
abbrev Value : Type 0
Value = Known → Result ℕ Offence

abbrev pub ShortFixedLayer : Fixed-F Fixed → Type 0
ShortFixedLayer x = (known : Known) → ShortKnown known → IsShort (fixed_step (map-Fixed Fixed Value constant_of x) known)

pub fixed-of : (x : Fixed-F Fixed) → ShortFixedLayer x → ShortFixed (roll-Fixed x)
fixed-of x short = subst (λ (v : Value). (known : Known) → ShortKnown known → IsShort (v known)) (sym (fold-roll-Fixed Value fixed_step x)) short

pub fixed-tree : (x : Fixed-F Fixed) (t : Tree) → fixed_layer (map-Fixed Fixed Tree fixed_shape x) ≡ t → fixed_shape (roll-Fixed x) ≡ t
fixed-tree x t is = fold-roll-Fixed Tree fixed_layer x ∙ is

pub fixed-number : (n : ℕ) → n < 2 ^ 64 → ShortFixedLayer (Fixed-F.Number n)
fixed-number n short known seen = short

pub fixed-name : (x : List ℕ) (i : Option (Box Fixed)) → ShortFixedLayer (Fixed-F.Refer x i)
fixed-name x None known seen = read-short (known x) None (seen.at x)
fixed-name x (Some i) known seen = then-short (and_then (constant_of i.value known) (λ n. Ok (Some n))) (read (known x)) (λ place. read-short (known x) place (seen.at x))

pub fixed-binary : (o : FixedOp) (a b : Fixed) → ShortFixed a → ShortFixedLayer (Fixed-F.Binary o (boxed a) (boxed b))
fixed-binary o a b short known seen = then-also (constant_of a known) (λ n. and_then (constant_of b known) (λ m. applied o n m)) (short known seen) (λ n few. then-short (constant_of b known) (applied o n) (λ m. applied-short o n m few))

pub fixed-paren : (a : Fixed) → ShortFixed a → ShortFixedLayer (Fixed-F.Paren (boxed a))
fixed-paren a short known seen = short known seen

-- ---- expressions
abbrev pub ShortLayer : Expr-F Expr → Type 0
ShortLayer x = ShortMaking (making_step (map-Expr Expr ExprPlan plan_of x))

pub expr-of : (x : Expr-F Expr) → ShortLayer x → ShortExpr (roll-Expr x)
expr-of x short = subst (λ (p : ExprPlan). ShortMaking p.making) (sym (fold-roll-Expr ExprPlan plan_step x)) short

pub expr-tree : (x : Expr-F Expr) (t : Tree) → expr_layer (map-Expr Expr Tree expr_shape x) ≡ t → expr_shape (roll-Expr x) ≡ t
expr-tree x t is = fold-roll-Expr Tree expr_layer x ∙ is

each-plan : (es : List Expr) → AllByRecursion ShortExpr es → ShortPlans (map plan_of es)
each-plan [] all = tt
each-plan (e ∷ es) all = (all.0, each-plan es all.1)

pub expr-number : (n : ℕ) → n < 2 ^ 64 → ShortLayer (Expr-F.Number n)
expr-number n short v seen env streams es all = record { equations = all; given = lt-ltb n (2 ^ 64) short }

pub expr-refer : (r : Ref) → ShortLayer (Expr-F.Refer r)
expr-refer r v seen env streams es all = referred-short (v.known r.name) (place r v.known) (env r.name (place r v.known)) es (seen.known.at r.name) (streams.at r.name (place r v.known)) all

pub expr-delay : (r : Ref) (k : Fixed) → ShortLayer (Expr-F.Delay r k)
expr-delay r k v seen env streams es all = earlier-short (constant k v.known) (env r.name (place r v.known)) es (streams.at r.name (place r v.known)) all

pub expr-slice : (e : Expr) (high low : Fixed) → ShortExpr e → ShortLayer (Expr-F.Slice (boxed e) high low)
expr-slice e high low short v seen env streams es all = apply-short (op.Slice (constant high v.known) (constant low v.known)) (all_made (plan_of e ∷ []) v env es) (all-made-short (plan_of e ∷ []) (short, tt) v seen env streams es all)

pub expr-not : (e : Expr) → ShortExpr e → ShortLayer (Expr-F.Not (boxed e))
expr-not e short v seen env streams es all = apply-short op.Not (all_made (plan_of e ∷ []) v env es) (all-made-short (plan_of e ∷ []) (short, tt) v seen env streams es all)

pub expr-binary : (o : BinOp) (a b : Expr) → ShortExpr a → ShortExpr b → ShortLayer (Expr-F.Binary o (boxed a) (boxed b))
expr-binary o a b one other v seen env streams es all = combined-short o (constant_shift o ((plan_of b).amount v.known)) (plan_of a) (plan_of b) one other v seen env streams es all

pub expr-choose : (c a b : Expr) → ShortExpr c → ShortExpr a → ShortExpr b → ShortLayer (Expr-F.Choose (boxed c) (boxed a) (boxed b))
expr-choose c a b test one other v seen env streams es all =
    let ps = plan_of c ∷ plan_of a ∷ plan_of b ∷ [] in
    apply-short op.Choose (all_made ps v env es) (all-made-short ps (test, (one, (other, tt))) v seen env streams es all)

pub expr-call : (x : List ℕ) (args : Vec Expr) → AllByRecursion ShortExpr args.items → ShortLayer (Expr-F.Call x args)
expr-call x args short v seen env streams es all =
    let ps = map plan_of args.items in
    called-short (function_of (v.known x) (v.functions x)) (all_made ps v env es) (function-short (v.known x) (v.functions x) (seen.functions x)) (all-made-short ps (each-plan args.items short) v seen env streams es all)

pub expr-cat : (parts : Vec Expr) → AllByRecursion ShortExpr parts.items → ShortLayer (Expr-F.Cat parts)
expr-cat parts short v seen env streams es all =
    let ps = map plan_of parts.items in
    let made = all-made-short ps (each-plan parts.items short) v seen env streams es all in
    concatenated-short (all_made ps v env es).given (all_made ps v env es).equations made.given made.equations

pub expr-paren : (e : Expr) → ShortExpr e → ShortLayer (Expr-F.Paren (boxed e))
expr-paren e short v seen env streams es all = short v seen env streams es all

-- ---- statements
abbrev pub ShortStmtLayer : Stmt-F Stmt → Type 0
ShortStmtLayer x = ShortChange (stmt_step (map-Stmt Stmt Change change_of x))

pub stmt-of : (x : Stmt-F Stmt) → ShortStmtLayer x → ShortStmt (roll-Stmt x)
stmt-of x short = subst ShortChange (sym (fold-roll-Stmt Change stmt_step x)) short

pub stmt-tree : (x : Stmt-F Stmt) (t : Tree) → stmt_layer (map-Stmt Stmt Tree stmt_shape x) ≡ t → stmt_shape (roll-Stmt x) ≡ t
stmt-tree x t is = fold-roll-Stmt Tree stmt_layer x ∙ is

pub stmt-let : (r : Ref) (w : Option ℕ) (e : Expr) → ShortExpr e → ShortStmtLayer (Stmt-F.Let r w e)
stmt-let r w e short = let-short r w e short

pub stmt-rec : (r : Ref) (w : Option ℕ) (c : Fixed) (e : Expr) → ShortExpr e → ShortStmtLayer (Stmt-F.Rec r w c e)
stmt-rec r w c e short = rec-short r w c e short

pub stmt-for : (x : List ℕ) (low high : Fixed) (body : Vec Stmt) → ShortFixed low → ShortFixed high → AllByRecursion ShortStmt body.items → ShortStmtLayer (Stmt-F.For x low high body)
stmt-for x low high body from to stmts = for-short x low high (map change_of body.items) from to (each-change body.items stmts)
