-- The equations of what has one tree.
use mathlib.Core.Path.{fun_ext}
use Rattle.std.proofs.Common.{◌≡◌, ◌∙◌, ◌+◌, ◌-◌, ℕ, List, [], ◌∷◌, map, length, Option, nat_le, refl, ap, ap₂}
use Rattle.pr_lang.specs.declared.trees.Fixed.{Fixed}
use Rattle.pr_lang.specs.declared.trees.Ref.{Ref}
use Rattle.pr_lang.specs.declared.trees.Expr.{Expr}
use Rattle.pr_lang.specs.declared.trees.Expr.TheOpen.{Expr-F}
use Rattle.pr_lang.specs.declared.trees.Stmt.{Stmt}
use Rattle.pr_lang.specs.declared.trees.Stmt.TheOpen.{Stmt-F}
use Rattle.pr_lang.specs.declared.trees.Param.{Param}
use Rattle.pr_lang.specs.declared.trees.Item.{Item}
use Rattle.pr_lang.specs.declared.trees.Program.{Program}
use Rattle.pr_lang.specs.Shape.{fixed_shape, expr_shape, stmt_shape, item_shape, program_shape}
use Rattle.pr_scope_names.specs.declared.names.Static.TheVariants.{Table}
use Rattle.pr_lang_meaning.specs.Programs.{function_at}
use Rattle.pr_expand_spec.specs.Making.{Equations, Expanded, constant}
use Rattle.pr_expand_spec.specs.Expressions.{Streams, Inlined, Visible, ExprPlan, all_made, function_of, called, concatenated, making_step, is_operator_step, plan_step, plan_of, place}
use Rattle.pr_expand_spec.specs.Statements.{Progress, Change, body_made, with_recurrence, settled, in_turn, with_index, turns, stmt_step, change_of}
use Rattle.pr_expand_spec.specs.Programs.{World, Flattened, inlined, start, with_static, with_function, item_change, items_change, equations_of}
use Rattle.pr_lang_same_tree.proofs.Lists.{each-alike, one-listed}
use Rattle.pr_lang_same_tree.proofs.Fixeds.{same-value}
use Rattle.pr_lang_same_tree.proofs.Refs.{alone, indexed}
use Rattle.pr_lang_same_tree.proofs.Exprs.{LikeExpr, number, refer, delay, slice, not, binary, choose, call, cat, paren}
use Rattle.pr_lang_same_tree.proofs.Exprs as exprs
use Rattle.pr_lang_same_tree.proofs.Stmts.{LikeStmt, let_stmt, rec_stmt, for_stmt}
use Rattle.pr_lang_same_tree.proofs.Stmts as stmts
use Rattle.pr_lang_same_tree.proofs.Amounts.{even-amount}
use Rattle.pr_lang_same_tree.proofs.Items.{LikeItem, input, output, const, table, function, step, like-items}

-- ---- expressions
even-making : (x y : Expr-F ExprPlan) → LikeExpr ExprPlan x y → (v : Visible) (env : Streams) (es : Equations) → making_step x v env es ≡ making_step y v env es
even-making x y (number n) v env es = refl
even-making x y (refer r s (alone name)) v env es = refl
even-making x y (refer r s (indexed name i j is)) v env es = rw (same-value i j is v.known)
even-making x y (delay r s j k (alone name) by) v env es = rw (same-value j k by v.known)
even-making x y (delay r s j k (indexed name g h is) by) v env es = rw (same-value g h is v.known, same-value j k by v.known)
even-making x y (slice a b g h k l is high low) v env es = rw (is, same-value g h high v.known, same-value k l low v.known)
even-making x y (not a b is) v env es = rw is
even-making x y (binary o a b c d left right) v env es = rw (left, right)
even-making x y (choose a b c d e f first second third) v env es = rw (first, second, third)
even-making x y (call name ps qs are) v env es = ap (λ (parts : List ExprPlan). called (function_of (v.known name) (v.functions name)) (all_made parts v env es)) are
even-making x y (cat ps qs are) v env es = ap (λ (parts : List ExprPlan). let all = all_made parts v env es in concatenated all.given all.equations) are
even-making x y (paren a b is) v env es = rw is

even-operator : (x y : Expr-F ExprPlan) → LikeExpr ExprPlan x y → is_operator_step x ≡ is_operator_step y
even-operator x y (number n) = refl
even-operator x y (refer r s like) = refl
even-operator x y (delay r s j k like by) = refl
even-operator x y (slice a b g h k l is high low) = refl
even-operator x y (not a b is) = refl
even-operator x y (binary o a b c d left right) = refl
even-operator x y (choose a b c d e f first second third) = refl
even-operator x y (call name ps qs are) = refl
even-operator x y (cat ps qs are) = ap (λ (parts : List ExprPlan). nat_le 2 (length parts)) are
even-operator x y (paren a b is) = rw is

even-plan : (x y : Expr-F ExprPlan) → LikeExpr ExprPlan x y → plan_step x ≡ plan_step y
even-plan x y like =
    let makings : making_step x ≡ making_step y = fun_ext (λ v. fun_ext (λ env. fun_ext (even-making x y like v env))) in
    let amounts = fun_ext (even-amount ExprPlan (λ p. p.amount) x y like) in
    rw (makings, amounts, even-operator x y like)

same-plan : (e d : Expr) → expr_shape e ≡ expr_shape d → plan_of e ≡ plan_of d
same-plan = exprs.same-fold ExprPlan plan_step even-plan

-- ---- statements
even-rec : (r : Ref) (w : Option ℕ) (k : Fixed) (e d : Expr) → expr_shape e ≡ expr_shape d → (v : Visible) (p : Progress) → stmt_step (Stmt-F.Rec r w k e) v p ≡ stmt_step (Stmt-F.Rec r w k d) v p
even-rec r w k e d body v p =
    let at = place r v.known in
    let bodies : (λ n. body_made r.name at w e n v p) ≡ (λ n. body_made r.name at w d n v p) = fun_ext (λ n. rw (same-plan e d body)) in
    ap (λ (b : ℕ → Expanded). with_recurrence r.name at w (constant k v.known) p (settled (b 0) (b (length (b 0).equations)))) bodies

even-stmt : (x y : Stmt-F Change) → LikeStmt Change x y → (v : Visible) (p : Progress) → stmt_step x v p ≡ stmt_step y v p
even-stmt x y (let_stmt r s w e d (alone name) value) v p = rw (same-plan e d value)
even-stmt x y (let_stmt r s w e d (indexed name i j is) value) v p = rw (same-value i j is v.known, same-plan e d value)
even-stmt x y (rec_stmt r s w c k e d (alone name) init body) v p = rw (same-value c k init v.known) (even-rec s w k e d body v p)
even-stmt x y (rec_stmt r s w c k e d (indexed name i j is) init body) v p = rw (same-value i j is v.known, same-value c k init v.known) (even-rec s w k e d body v p)
even-stmt x y (for_stmt name g h k l body other low high are) v p =
    rw (same-value g h low v.known, same-value k l high v.known) (ap (λ (fs : List Change). let from = constant h v.known in turns (constant l v.known - from) from (λ at. in_turn fs (with_index name at v)) p) are)

same-change : (s t : Stmt) → stmt_shape s ≡ stmt_shape t → change_of s ≡ change_of t
same-change = stmts.same-fold Change stmt_step (λ x y like. fun_ext (λ v. fun_ext (even-stmt x y like v)))

-- ---- items
same-inlined : (params : List Param) (width : Option ℕ) (body other : List Stmt) (e d : Expr) → map stmt_shape body ≡ map stmt_shape other → expr_shape e ≡ expr_shape d → (v : Visible) → inlined params width body e v ≡ inlined params width other d v
same-inlined params width body other e d bodies results v = fun_ext (λ args. fun_ext (λ es. rw (each-alike stmt_shape change_of body other same-change bodies, same-plan e d results)))

same-item : (at : ℕ) (i j : Item) → LikeItem i j → (w : World) → item_change at i w ≡ item_change at j w
same-item at i j (input name width) w = refl
same-item at i j (output name width e d value) w = rw (same-plan e d value)
same-item at i j (const name c k value) w = rw (same-value c k value w.visible.known)
same-item at i j (table name cs ks values) w = ap (λ (ns : List ℕ). with_static name (Table ns) w) (each-alike fixed_shape (λ f. constant f w.visible.known) cs.items ks.items (λ c k is. rw (same-value c k is w.visible.known)) values)
same-item at i j (function name ps qs width body other e d params bodies results) w =
    ap₂ (λ (f : List Param → Inlined) (params : List Param). with_function name (function_at at params) (f params) w) (fun_ext (λ params. same-inlined params width body.items other.items e d bodies results w.visible)) params
same-item at i j (step s t stmt) w = rw (same-change s t stmt)

same-items : (at : ℕ) (is js : List Item) → map item_shape is ≡ map item_shape js → (w : World) → items_change at is w ≡ items_change at js w
same-items at [] [] same w = refl
same-items at [] (j ∷ js) same w = absurd cc
same-items at (i ∷ is) [] same w = absurd cc
same-items at (i ∷ is) (j ∷ js) same w =
    let here : item_shape i ≡ item_shape j = cc in
    let more : map item_shape is ≡ map item_shape js = cc in
    ap (items_change (at + 1) is) (same-item at i j (like-items i j here) w) ∙ same-items (at + 1) is js more (item_change at j w)

-- ---- programs
flattened : World → Flattened
flattened w = record { equations = w.progress.equations; outputs = w.outputs }

pub same-equations : (p q : Program) → program_shape p ≡ program_shape q → equations_of p ≡ equations_of q
unfolding flattened
same-equations p q same = ap flattened (same-items 0 p.items.items q.items.items (one-listed _ _ same) start)
