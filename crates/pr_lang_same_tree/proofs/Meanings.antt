-- What is meant by what has one tree.
use mathlib.Core.Path.{fun_ext}
use Rattle.std.proofs.Common.{◌≡◌, ◌+◌, ◌-◌, ℕ, List, [], ◌∷◌, map, length, Option, Some, refl, ap, ap₂}
use Rattle.std.specs.Option.{option_and_then, option_map, unwrap_or, is_some}
use Rattle.std.specs.Result.{result_ok}
use Rattle.pr_lang.specs.declared.trees.Fixed.{Fixed}
use Rattle.pr_lang.specs.declared.trees.Ref.{Ref}
use Rattle.pr_lang.specs.declared.trees.Expr.{Expr}
use Rattle.pr_lang.specs.declared.trees.Expr.TheOpen.{Expr-F}
use Rattle.pr_lang.specs.declared.trees.Stmt.{Stmt}
use Rattle.pr_lang.specs.declared.trees.Stmt.TheOpen.{Stmt-F}
use Rattle.pr_lang.specs.declared.trees.Param.{Param}
use Rattle.pr_lang.specs.declared.trees.Item.{Item}
use Rattle.pr_lang.specs.declared.trees.Program.{Program}
use Rattle.pr_lang.specs.Shape.{fixed_shape, expr_shape, stmt_shape, item_shape, program_shape}
use Rattle.pr_scope_names.specs.Names.{Known}
use Rattle.pr_scope_names.specs.Constants.{constant_of, place_of}
use Rattle.pr_flat.specs.Forms.{Stream}
use Rattle.pr_lang_meaning.specs.Streams.{Sources, Streams, all_parts, with_bound}
use Rattle.pr_lang_meaning.specs.Expressions.{Function, Visible, Sense, senses, concatenated, meaning_step, sense_step, meaning}
use Rattle.pr_lang_meaning.specs.Statements.{Change, Body, body_of, width_of, recurrence, with_recurrence, in_turn, with_known, turns, stmt_step, change_of}
use Rattle.pr_lang_meaning.specs.Programs.{function_of, function_at, World, start, with_function, entries_of, item_change, items_change, streams_of, rows_of, out, has_widths}
use Rattle.pr_lang_same_tree.proofs.Lists.{each-alike, one-listed}
use Rattle.pr_lang_same_tree.proofs.Fixeds.{same-value}
use Rattle.pr_lang_same_tree.proofs.Refs.{alone, indexed}
use Rattle.pr_lang_same_tree.proofs.Exprs.{LikeExpr, number, refer, delay, slice, not, binary, choose, call, cat, paren}
use Rattle.pr_lang_same_tree.proofs.Exprs as exprs
use Rattle.pr_lang_same_tree.proofs.Stmts.{LikeStmt, let_stmt, rec_stmt, for_stmt}
use Rattle.pr_lang_same_tree.proofs.Stmts as stmts
use Rattle.pr_lang_same_tree.proofs.Items.{LikeItem, input, output, const, table, function, step, like-items}
use Rattle.pr_lang_same_tree.proofs.Amounts.{even-amount}

-- ---- expressions
even-meaning : (x y : Expr-F Sense) → LikeExpr Sense x y → (v : Visible) (m : ℕ) (env : Sources) → meaning_step x v m env ≡ meaning_step y v m env
even-meaning x y (number n) v m env = refl
even-meaning x y (refer r s (alone name)) v m env = refl
even-meaning x y (refer r s (indexed name i j is)) v m env = rw (same-value i j is v.known)
even-meaning x y (delay r s j k (alone name) by) v m env = rw (same-value j k by v.known)
even-meaning x y (delay r s j k (indexed name g h is) by) v m env = rw (same-value g h is v.known, same-value j k by v.known)
even-meaning x y (slice a b g h k l is high low) v m env = rw (is, same-value g h high v.known, same-value k l low v.known)
even-meaning x y (not a b is) v m env = rw is
even-meaning x y (binary o a b c d left right) v m env = rw (left, right)
even-meaning x y (choose a b c d e f first second third) v m env = rw (first, second, third)
even-meaning x y (call name es ds are) v m env = ap (λ (parts : List Sense). option_and_then (λ ss. option_and_then (λ (f : Function). f m ss) (v.functions name)) (all_parts (senses parts v m env))) are
even-meaning x y (cat es ds are) v m env = ap (λ (parts : List Sense). option_and_then (concatenated m) (all_parts (senses parts v m env))) are
even-meaning x y (paren a b is) v m env = rw is

even-sense : (x y : Expr-F Sense) → LikeExpr Sense x y → sense_step x ≡ sense_step y
even-sense x y like = ap₂ (λ f a. record { meaning = f; amount = a }) (fun_ext (λ v. fun_ext (λ m. fun_ext (even-meaning x y like v m)))) (fun_ext (even-amount Sense (λ s. s.amount) x y like))

same-meaning : (e d : Expr) → expr_shape e ≡ expr_shape d → meaning e ≡ meaning d
same-meaning e d same = ap (λ (s : Sense). s.meaning) (exprs.same-fold Sense sense_step even-sense e d same)

-- ---- statements
same-recurrence : (r : Ref) (place width : Option ℕ) (e d : Expr) → expr_shape e ≡ expr_shape d → (init : ℕ) (v : Visible) (m : ℕ) (env : Streams) → with_recurrence r place width e init v m env ≡ with_recurrence r place width d init v m env
same-recurrence r place width e d body init v m env =
    let bodies : body_of e r.name place init v m env ≡ body_of d r.name place init v m env = fun_ext (λ w. fun_ext (λ numbers. rw (same-meaning e d body))) in
    ap (λ (b : Body). option_map (λ w. with_bound r.name place (recurrence m init b w) env) (width_of width init b)) bodies

even-rec : (r s : Ref) (w : Option ℕ) (k : Fixed) (e d : Expr) → expr_shape e ≡ expr_shape d → (v : Visible) (m : ℕ) (env : Streams) → stmt_step (Stmt-F.Rec r w k e) v m env ≡ stmt_step (Stmt-F.Rec r w k d) v m env
even-rec r s w k e d body v m env =
    ap (λ (f : Option ℕ → ℕ → Option Streams). option_and_then (λ place. option_and_then (λ c. f place c) (result_ok (constant_of k v.known))) (result_ok (place_of r v.known))) (fun_ext (λ place. fun_ext (λ c. same-recurrence r place w e d body c v m env)))

even-stmt : (x y : Stmt-F Change) → LikeStmt Change x y → (v : Visible) (m : ℕ) (env : Streams) → stmt_step x v m env ≡ stmt_step y v m env
even-stmt x y (let_stmt r s w e d (alone name) value) v m env = rw (same-meaning e d value)
even-stmt x y (let_stmt r s w e d (indexed name i j is) value) v m env = rw (same-value i j is v.known, same-meaning e d value)
even-stmt x y (rec_stmt r s w c k e d (alone name) init body) v m env = rw (same-value c k init v.known) (even-rec s s w k e d body v m env)
even-stmt x y (rec_stmt r s w c k e d (indexed name i j is) init body) v m env = rw (same-value i j is v.known, same-value c k init v.known) (even-rec s s w k e d body v m env)
even-stmt x y (for_stmt name g h k l body other low high are) v m env =
    rw (same-value g h low v.known, same-value k l high v.known) (ap (λ (fs : List Change). option_and_then (λ from. option_and_then (λ to. turns (to - from) from (λ at. in_turn fs (with_known name at v) m) env) (result_ok (constant_of l v.known))) (result_ok (constant_of h v.known))) are)

same-change : (s t : Stmt) → stmt_shape s ≡ stmt_shape t → change_of s ≡ change_of t
same-change = stmts.same-fold Change stmt_step (λ x y like. fun_ext (λ v. fun_ext (λ m. fun_ext (even-stmt x y like v m))))

-- ---- items
same-entries : (cs ks : List Fixed) → map fixed_shape cs ≡ map fixed_shape ks → (known : Known) → entries_of cs known ≡ entries_of ks known
same-entries [] [] same known = refl
same-entries [] (k ∷ ks) same known = absurd cc
same-entries (c ∷ cs) [] same known = absurd cc
same-entries (c ∷ cs) (k ∷ ks) same known =
    let here : fixed_shape c ≡ fixed_shape k = cc in
    let more : map fixed_shape cs ≡ map fixed_shape ks = cc in
    rw (same-value c k here known, same-entries cs ks more known)

same-function : (params : List Param) (width : Option ℕ) (body other : List Stmt) (e d : Expr) → map stmt_shape body ≡ map stmt_shape other → expr_shape e ≡ expr_shape d → (v : Visible) → function_of params width body e v ≡ function_of params width other d v
same-function params width body other e d bodies results v = fun_ext (λ m. fun_ext (λ args. rw (each-alike stmt_shape change_of body other same-change bodies, same-meaning e d results)))

same-item : (xs : List (List ℕ)) (at : ℕ) (i j : Item) → LikeItem i j → (w : World) → item_change xs at i w ≡ item_change xs at j w
same-item xs at i j (input name width) w = refl
same-item xs at i j (output name width e d value) w = rw (same-meaning e d value)
same-item xs at i j (const name c k value) w = rw (same-value c k value w.visible.known)
same-item xs at i j (table name cs ks values) w = rw (same-entries cs.items ks.items values w.visible.known)
same-item xs at i j (function name ps qs width body other e d params bodies results) w =
    ap₂ (λ (f : List Param → Function) (params : List Param). Some (with_function name (function_at at params) (f params) w)) (fun_ext (λ params. same-function params width body.items other.items e d bodies results w.visible)) params
same-item xs at i j (step s t stmt) w = rw (same-change s t stmt)

same-items : (xs : List (List ℕ)) (at : ℕ) (is js : List Item) → map item_shape is ≡ map item_shape js → (w : World) → items_change xs at is w ≡ items_change xs at js w
same-items xs at [] [] same w = refl
same-items xs at [] (j ∷ js) same w = absurd cc
same-items xs at (i ∷ is) [] same w = absurd cc
same-items xs at (i ∷ is) (j ∷ js) same w =
    let here : item_shape i ≡ item_shape j = cc in
    let more : map item_shape is ≡ map item_shape js = cc in
    ap₂ (λ f o. option_and_then f o) (fun_ext (same-items xs (at + 1) is js more)) (same-item xs at i j (like-items i j here) w)

-- ---- programs
same-streams : (p q : Program) → program_shape p ≡ program_shape q → (xs : List (List ℕ)) → streams_of p xs ≡ streams_of q xs
same-streams p q same xs = ap (option_map (λ (w : World). w.outputs)) (same-items xs 0 p.items.items q.items.items (one-listed _ _ same) start)

pub same-has_widths : (p q : Program) → program_shape p ≡ program_shape q → has_widths p ≡ has_widths q
same-has_widths p q same = ap is_some (same-streams p q same [])

pub same-out : (p q : Program) → program_shape p ≡ program_shape q → (xs : List (List ℕ)) → out p xs ≡ out q xs
same-out p q same xs = ap (λ (o : Option (List Stream)). rows_of (length xs) (unwrap_or o [])) (same-streams p q same xs)
