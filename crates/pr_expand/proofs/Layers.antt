-- What each kind of expression and statement makes.
use Rattle.std.proofs.Common.{◌≡◌, ◌∙◌, ◌<◌, ℕ, suc, ◌+◌, ◌-◌, List, [], ◌∷◌, ◌++◌, append_assoc, map, length, drop, get_or, Option, Vec, Global, sym, ap, arith}
use Rattle.std.proofs.lemmas.List.{at_drop_more}
use Rattle.pr_lang.specs.declared.trees.Fixed.{Fixed}
use Rattle.pr_lang.specs.declared.trees.Ref.{Ref}
use Rattle.pr_lang.specs.declared.trees.Expr as expressions
use Rattle.pr_lang.specs.declared.trees.Expr.{Expr}
use Rattle.pr_lang.specs.declared.trees.Expr.TheVariants.{Call, Cat}
use Rattle.pr_lang.specs.declared.trees.Expr.TheOpen.{Expr-F}
use Rattle.pr_lang.specs.declared.trees.Expr.TheFolds.{fold-roll-Expr}
use Rattle.pr_lang.specs.declared.trees.Stmt as statements
use Rattle.pr_lang.specs.declared.trees.Stmt.{Stmt}
use Rattle.pr_lang.specs.declared.trees.Stmt.TheVariants.{Let, Rec, For}
use Rattle.pr_lang.specs.declared.trees.Stmt.TheOpen.{Stmt-F}
use Rattle.pr_lang.specs.declared.trees.Stmt.TheFolds.{fold-roll-Stmt}
use Rattle.pr_expand_spec.specs.declared.givens.Given.{Given}
use Rattle.pr_expand_spec.specs.Making.{Equations, Expanded, constant}
use Rattle.pr_expand_spec.specs.Expressions.{AllExpanded, ExprPlan, Streams, Visible, all_made, called, concatenated, function_of, plan_of, plan_step}
use Rattle.pr_expand.specs.Descents.{making}
use Rattle.pr_expand_spec.specs.Statements.{Change, Progress, change_of, changes_of, let_change, rec_change, stmt_step, turns, with_index}

-- what was given before
abbrev pub with_given : List Given → AllExpanded → AllExpanded
with_given done a = record { equations = a.equations; given = done ++ a.given }

call_law : (name : List ℕ) (args : Vec Expr Global) (v : Visible) (env : Streams) (es : Equations) → making (Call name args) v env es ≡ called (function_of (v.known name) (v.functions name)) (all_made (map plan_of args.items) v env es)
unfolding expressions.roll-Expr denote.Hole.Carrier.roll
call_law name args v env es = ap (λ (p : ExprPlan). p.making v env es) (fold-roll-Expr ExprPlan plan_step (Expr-F.Call name args))

cat_law : (parts : Vec Expr Global) (v : Visible) (env : Streams) (es : Equations) → making (Cat parts) v env es ≡ concatenated (all_made (map plan_of parts.items) v env es).given (all_made (map plan_of parts.items) v env es).equations
unfolding expressions.roll-Expr denote.Hole.Carrier.roll
cat_law parts v env es = ap (λ (p : ExprPlan). p.making v env es) (fold-roll-Expr ExprPlan plan_step (Expr-F.Cat parts))

let_law : (target : Ref) (width : Option ℕ) (e : Expr) (v : Visible) (s : Progress) → change_of (Let target width e) v s ≡ let_change target width e v s
unfolding statements.roll-Stmt denote.Hole.Carrier.roll
let_law target width e v s = ap (λ (f : Change). f v s) (fold-roll-Stmt Change stmt_step (Stmt-F.Let target width e))

rec_law : (target : Ref) (width : Option ℕ) (init : Fixed) (e : Expr) (v : Visible) (s : Progress) → change_of (Rec target width init e) v s ≡ rec_change target width init e v s
unfolding statements.roll-Stmt denote.Hole.Carrier.roll
rec_law target width init e v s = ap (λ (f : Change). f v s) (fold-roll-Stmt Change stmt_step (Stmt-F.Rec target width init e))

for_law : (index : List ℕ) (low high : Fixed) (body : Vec Stmt Global) (v : Visible) (s : Progress) → change_of (For index low high body) v s ≡ turns (constant high v.known - constant low v.known) (constant low v.known) (λ at. changes_of body.items (with_index index at v)) s
unfolding statements.roll-Stmt denote.Hole.Carrier.roll
for_law index low high body v s = ap (λ (f : Change). f v s) (fold-roll-Stmt Change stmt_step (Stmt-F.For index low high body))

pub let_is : (st : Stmt) (target : Ref) (width : Option ℕ) (e : Expr) (v : Visible) (s : Progress) → st ≡ Let target width e → change_of st v s ≡ let_change target width e v s
let_is st target width e v s is = ap (λ (x : Stmt). change_of x v s) is ∙ let_law target width e v s

pub rec_is : (st : Stmt) (target : Ref) (width : Option ℕ) (init : Fixed) (e : Expr) (v : Visible) (s : Progress) → st ≡ Rec target width init e → change_of st v s ≡ rec_change target width init e v s
rec_is st target width init e v s is = ap (λ (x : Stmt). change_of x v s) is ∙ rec_law target width init e v s

pub for_is : (st : Stmt) (index : List ℕ) (low high : Fixed) (body : Vec Stmt Global) (lent : List Stmt) (v : Visible) (s : Progress) (from to : ℕ) → st ≡ For index low high body → lent ≡ body.items → from ≡ constant low v.known → to ≡ constant high v.known → change_of st v s ≡ turns (to - from) from (λ at. changes_of lent (with_index index at v)) s
for_is st index low high body lent v s from to is all begin end =
    ap (λ (x : Stmt). change_of x v s) is ∙ (for_law index low high body v s ∙ (λ i. turns (sym end i - sym begin i) (sym begin i) (λ at. changes_of (sym all i) (with_index index at v)) s))

-- a call, whose arguments are made
pub call_is : (v w : Visible) (env : Streams) (es : Equations) (e : Expr) (name : List ℕ) (args : Vec Expr Global) (lent : List Expr) (a : AllExpanded) → e ≡ Call name args → lent ≡ args.items → w ≡ v → a ≡ all_made (map plan_of lent) v env es → called (function_of (w.known name) (w.functions name)) a ≡ making e v env es
call_is v w env es e name args lent a is all same parts =
    let there : a ≡ all_made (map plan_of args.items) v env es = parts ∙ ap (λ (xs : List Expr). all_made (map plan_of xs) v env es) all in
    (λ i. called (function_of ((same i).known name) ((same i).functions name)) (there i)) ∙ sym (ap (λ (y : Expr). making y v env es) is ∙ call_law name args v env es)

pub cat_is : (v : Visible) (env : Streams) (es : Equations) (e : Expr) (parts : Vec Expr Global) (lent : List Expr) (a : AllExpanded) → e ≡ Cat parts → lent ≡ parts.items → a ≡ all_made (map plan_of lent) v env es → concatenated a.given a.equations ≡ making e v env es
cat_is v env es e parts lent a is all made =
    let there : a ≡ all_made (map plan_of parts.items) v env es = made ∙ ap (λ (xs : List Expr). all_made (map plan_of xs) v env es) all in
    (λ i. concatenated (there i).given (there i).equations) ∙ sym (ap (λ (y : Expr). making y v env es) is ∙ cat_law parts v env es)

-- statements, one after the other
pub stmts_step : (v u : Visible) (s t : Progress) (w : Progress) (stmts : List Stmt) (i : ℕ) (st : Stmt) → i < length stmts → st ≡ get_or stmts i st → u ≡ v → t ≡ change_of st u s → changes_of (drop i stmts) v s ≡ w → changes_of (drop (i + 1) stmts) v t ≡ w
stmts_step v u s t w stmts i st h is same step rest =
    (λ j. changes_of (drop (i + 1) stmts) v ((step ∙ (λ k. change_of st (same k) s)) j)) ∙
    (ap (λ (x : Stmt). changes_of (drop (i + 1) stmts) v (change_of x v s)) is ∙
    (sym (at_drop_more (λ xs. changes_of xs v s) stmts i st h) ∙ rest))

-- turns, one after the other
pub turns_step : (f : ℕ → Progress → Progress) (end at : ℕ) (s t w : Progress) → at < end → t ≡ f at s → turns (end - at) at f s ≡ w → turns (end - (at + 1)) (at + 1) f t ≡ w
turns_step f end at s t w h step rest =
    let more : end - at ≡ suc (end - (at + 1)) = omega (arith, h) in
    ap (turns (end - (at + 1)) (at + 1) f) step ∙ (sym (ap (λ (n : ℕ). turns n at f s) more) ∙ rest)

-- parts, one after the other
pub parts_step : (v u : Visible) (env : Streams) (es : Equations) (done now : List Given) (exprs : List Expr) (i : ℕ) (e : Expr) (x : Expanded) (w : AllExpanded) → i < length exprs → e ≡ get_or exprs i e → u ≡ v → x ≡ making e u env es → now ≡ done ++ x.given ∷ [] → with_given done (all_made (map plan_of (drop i exprs)) v env es) ≡ w → with_given now (all_made (map plan_of (drop (i + 1) exprs)) v env x.equations) ≡ w
parts_step v u env es done now exprs i e x w h is same step grown rest =
    let after : Equations → AllExpanded = λ more. all_made (map plan_of (drop (i + 1) exprs)) v env more in
    let joined : Expanded → AllExpanded = λ m. record { equations = (after m.equations).equations; given = done ++ (m.given ∷ (after m.equations).given) } in
    let one : x ≡ making e v env es = step ∙ (λ k. making e (same k) env es) in
    (λ j. with_given (grown j) (after x.equations)) ∙
    ((λ j. record { equations = (after x.equations).equations; given = append_assoc done (x.given ∷ []) (after x.equations).given j }) ∙
    (ap joined one ∙
    (ap (λ (y : Expr). joined (making y v env es)) is ∙
    (sym (at_drop_more (λ (xs : List Expr). with_given done (all_made (map plan_of xs) v env es)) exprs i e h) ∙ rest))))
