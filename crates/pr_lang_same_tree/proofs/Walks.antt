-- The walk over what has one tree.
use mathlib.Core.Path.{fun_ext}
use Rattle.std.proofs.Common.{◌≡◌, ◌||◌, ◌+◌, ◌-◌, ℕ, Bool, List, [], ◌∷◌, map, length, Option, Result, Ok, refl, ap, ap₂}
use Rattle.pr_lang.specs.declared.trees.Expr.{Expr}
use Rattle.pr_lang.specs.declared.trees.Expr.TheOpen.{Expr-F}
use Rattle.pr_lang.specs.declared.trees.Stmt.{Stmt}
use Rattle.pr_lang.specs.declared.trees.Stmt.TheOpen.{Stmt-F}
use Rattle.pr_lang.specs.declared.trees.Param.{Param}
use Rattle.pr_lang.specs.declared.trees.Item.{Item}
use Rattle.pr_lang.specs.declared.trees.Program.{Program}
use Rattle.pr_lang.specs.Shape.{fixed_shape, expr_shape, stmt_shape, item_shape, program_shape}
use Rattle.pr_scope_names.specs.declared.rules.Rule.TheVariants.{Introduced}
use Rattle.pr_scope_names.specs.declared.rules.Offence.{Offence}
use Rattle.pr_scope_names.specs.declared.counts.Count.{Count}
use Rattle.pr_scope_names.specs.declared.names.Static.TheVariants.{Constant, Index, Table, Function}
use Rattle.pr_scope_names.specs.declared.names.Static.TheVariants as static
use Rattle.pr_scope_names.specs.declared.names.Callee.{Callee}
use Rattle.pr_scope_names.specs.Outcomes.{and_then, provided, counted}
use Rattle.pr_scope_names.specs.Names.{Known, Streaming, is_free, bind}
use Rattle.pr_scope_names.specs.Constants.{constant_of}
use Rattle.pr_scope.specs.declared.expressions.Scene.{Scene}
use Rattle.pr_scope.specs.Expressions.{Reading, walks_of, called, walk_step, reading_step, reading, walk_of, is_past, pasts_of, past_step, past_of}
use Rattle.pr_scope.specs.declared.statements.Span.{Span}
use Rattle.pr_scope.specs.Statements.{Progress, Change, rec_body, for_ready, turns, turn, stmt_step, change_of, stmt_past_step, stmt_past_of}
use Rattle.pr_scope.specs.Walk.{World, start, with_known, callee_of, item_change, onward, items_walk, program_walk, offence, refusal_of, inputs_after}
use Rattle.pr_lang_same_tree.proofs.Lists.{each-alike, one-listed}
use Rattle.pr_lang_same_tree.proofs.Fixeds.{same-value}
use Rattle.pr_lang_same_tree.proofs.Refs.{alone, indexed}
use Rattle.pr_lang_same_tree.proofs.Exprs.{LikeExpr, number, refer, delay, slice, not, binary, choose, call, cat, paren}
use Rattle.pr_lang_same_tree.proofs.Exprs as exprs
use Rattle.pr_lang_same_tree.proofs.Stmts.{LikeStmt, let_stmt, rec_stmt, for_stmt}
use Rattle.pr_lang_same_tree.proofs.Stmts as stmts
use Rattle.pr_lang_same_tree.proofs.Amounts.{even-amount}
use Rattle.pr_lang_same_tree.proofs.Items.{LikeItem, input, output, const, table, function, step, like-items}

-- ---- expressions
even-walk : (x y : Expr-F Reading) → LikeExpr Reading x y → (known : Known) (streams : Streaming) (scene : Scene) (c : Count) → walk_step x known streams scene c ≡ walk_step y known streams scene c
even-walk x y (number n) known streams scene c = refl
even-walk x y (refer r s (alone name)) known streams scene c = refl
even-walk x y (refer r s (indexed name i j is)) known streams scene c = rw (same-value i j is known)
even-walk x y (delay r s j k (alone name) by) known streams scene c = rw (same-value j k by known)
even-walk x y (delay r s j k (indexed name g h is) by) known streams scene c = rw (same-value g h is known, same-value j k by known)
even-walk x y (slice a b g h k l is high low) known streams scene c = rw (is, same-value g h high known, same-value k l low known)
even-walk x y (not a b is) known streams scene c = rw is
even-walk x y (binary o a b p q left right) known streams scene c = rw (left, right)
even-walk x y (choose a b p q e f first second third) known streams scene c = rw (first, second, third)
even-walk x y (call name es ds are) known streams scene c = ap (λ (rs : List Reading). and_then (walks_of rs known streams scene c) (called (known name) (length rs) scene)) are
even-walk x y (cat es ds are) known streams scene c = ap (λ (rs : List Reading). walks_of rs known streams scene c) are
even-walk x y (paren a b is) known streams scene c = rw is

even-reading : (x y : Expr-F Reading) → LikeExpr Reading x y → reading_step x ≡ reading_step y
even-reading x y like = ap₂ (λ w a. record { walk = w; amount = a }) (fun_ext (λ known. fun_ext (λ streams. fun_ext (λ scene. fun_ext (even-walk x y like known streams scene))))) (fun_ext (even-amount Reading (λ r. r.amount) x y like))

same-reading : (e d : Expr) → expr_shape e ≡ expr_shape d → reading e ≡ reading d
same-reading = exprs.same-fold Reading reading_step even-reading

same-walk_of : (e d : Expr) → expr_shape e ≡ expr_shape d → walk_of e ≡ walk_of d
same-walk_of e d same = ap (λ (r : Reading). r.walk) (same-reading e d same)

even-past : (x y : Expr-F (Known → Bool)) → LikeExpr (Known → Bool) x y → (known : Known) → past_step x known ≡ past_step y known
even-past x y (number n) known = refl
even-past x y (refer r s like) known = refl
even-past x y (delay r s j k like by) known = refl
even-past x y (slice a b g h k l is high low) known = rw is
even-past x y (not a b is) known = rw is
even-past x y (binary o a b c d left right) known = rw (left, right)
even-past x y (choose a b c d e f first second third) known = rw (first, second, third)
even-past x y (call name es ds are) known = ap (λ (fs : List (Known → Bool)). is_past (known name) || pasts_of fs known) are
even-past x y (cat es ds are) known = ap (λ (fs : List (Known → Bool)). pasts_of fs known) are
even-past x y (paren a b is) known = rw is

same-past : (e d : Expr) → expr_shape e ≡ expr_shape d → past_of e ≡ past_of d
same-past = exprs.same-fold (Known → Bool) past_step (λ x y like. fun_ext (even-past x y like))

-- ---- statements
same-body : (name : List ℕ) (e d : Expr) → expr_shape e ≡ expr_shape d → (known : Known) (streams : Streaming) (inside : Bool) → rec_body name e known streams inside ≡ rec_body name d known streams inside
same-body name e d body known streams inside = fun_ext (λ begun. rw (same-walk_of e d body))

even-stmt : (x y : Stmt-F Change) → LikeStmt Change x y → (known : Known) (inside : Bool) (p : Progress) → stmt_step x known inside p ≡ stmt_step y known inside p
even-stmt x y (let_stmt r s w e d (alone name) value) known inside p = rw (same-walk_of e d value)
even-stmt x y (let_stmt r s w e d (indexed name i j is) value) known inside p = rw (same-value i j is known, same-walk_of e d value)
even-stmt x y (rec_stmt r s w c k e d (alone name) init body) known inside p = rw (same-value c k init known, same-body name e d body known p.streams inside)
even-stmt x y (rec_stmt r s w c k e d (indexed name i j is) init body) known inside p = rw (same-value i j is known, same-value c k init known, same-body name e d body known p.streams inside)
even-stmt x y (for_stmt name g h k l body other low high are) known inside p =
    let bounds : for_ready name g k known p.streams p.count ≡ for_ready name h l known p.streams p.count = rw (same-value g h low known, same-value k l high known) in
    ap₂ (λ (ready : Result Span Offence) (fs : List Change). and_then ready (λ span. turns (span.high - span.low) span.low (turn name fs known inside) (record { streams = p.streams; count = span.count }))) bounds are

same-change : (s t : Stmt) → stmt_shape s ≡ stmt_shape t → change_of s ≡ change_of t
same-change = stmts.same-fold Change stmt_step (λ x y like. fun_ext (λ known. fun_ext (λ inside. fun_ext (even-stmt x y like known inside))))

even-stmt_past : (x y : Stmt-F (Known → Bool)) → LikeStmt (Known → Bool) x y → (known : Known) → stmt_past_step x known ≡ stmt_past_step y known
even-stmt_past x y (let_stmt r s w e d like value) known = rw (same-past e d value)
even-stmt_past x y (rec_stmt r s w c k e d like init body) known = refl
even-stmt_past x y (for_stmt name g h k l body other low high are) known = ap (λ (fs : List (Known → Bool)). pasts_of fs known) are

same-stmt_past : (s t : Stmt) → stmt_shape s ≡ stmt_shape t → stmt_past_of s ≡ stmt_past_of t
same-stmt_past = stmts.same-fold (Known → Bool) stmt_past_step (λ x y like. fun_ext (even-stmt_past x y like))

-- ---- items
same-callee : (at : ℕ) (params : List Param) (width : Option ℕ) (body other : List Stmt) (e d : Expr) (known : Known) → map stmt_shape body ≡ map stmt_shape other → expr_shape e ≡ expr_shape d → callee_of at params width body e known ≡ callee_of at params width other d known
same-callee at params width body other e d known bodies results =
    rw (each-alike stmt_shape change_of body other same-change bodies, each-alike stmt_shape stmt_past_of body other same-stmt_past bodies, same-walk_of e d results, same-past e d results)

same-item : (at : ℕ) (i j : Item) → LikeItem i j → (w : World) → item_change at i w ≡ item_change at j w
same-item at i j (input name width) w = refl
same-item at i j (output name width e d value) w = rw (same-walk_of e d value)
same-item at i j (const name c k value) w = rw (same-value c k value w.known)
same-item at i j (table name cs ks values) w = rw (each-alike fixed_shape (λ v. constant_of v w.known) cs.items ks.items (λ c k is. same-value c k is w.known) values)
same-item at i j (function name ps qs width body other e d params bodies results) w =
    ap₂ (λ (rest : List Param → Result Callee Offence) (params : List Param). and_then (counted 0 w.count) (λ c. provided (is_free name w.known w.streams) Introduced (and_then (rest params) (λ f. Ok (with_known w c (bind name (static.Function f) w.known)))))) (fun_ext (λ params. same-callee at params width body.items other.items e d w.known bodies results)) params
same-item at i j (step s t stmt) w = rw (same-change s t stmt)

same-items : (at : ℕ) (is js : List Item) → map item_shape is ≡ map item_shape js → (w : World) → items_walk at is w ≡ items_walk at js w
same-items at [] [] same w = refl
same-items at [] (j ∷ js) same w = absurd cc
same-items at (i ∷ is) [] same w = absurd cc
same-items at (i ∷ is) (j ∷ js) same w =
    let here : item_shape i ≡ item_shape j = cc in
    let more : map item_shape is ≡ map item_shape js = cc in
    ap₂ (onward at) (same-item at i j (like-items i j here) w) (fun_ext (same-items (at + 1) is js more))

-- ---- programs
same-walk : (p q : Program) → program_shape p ≡ program_shape q → program_walk p ≡ program_walk q
same-walk p q same = same-items 0 p.items.items q.items.items (one-listed _ _ same) start

pub same-offence : (p q : Program) → program_shape p ≡ program_shape q → offence p ≡ offence q
same-offence p q same = ap refusal_of (same-walk p q same)

pub same-inputs : (p q : Program) → program_shape p ≡ program_shape q → inputs_after (program_walk p) ≡ inputs_after (program_walk q)
same-inputs p q same = ap inputs_after (same-walk p q same)
