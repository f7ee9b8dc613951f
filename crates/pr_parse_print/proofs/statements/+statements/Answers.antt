use Rattle.std.proofs.Common.{◌≡◌, ◌∙◌, ap, sym, refl, map}
use Rattle.std.proofs.lemmas.Result.{IfOk-from_err, on_ok_weaker}
use Rattle.pr_lang.specs.declared.trees.Stmt.TheFolds.{fold-roll-Stmt}
use Rattle.pr_lang.specs.declared.trees.Stmt.TheViews.{rolls-Let, rolls-Rec, rolls-For}
use Rattle.pr_lang.specs.Tree as tree
use Rattle.pr_lang.specs.Is.{name_tree}
use Rattle.pr_lang.specs.Shape.{expr_shape, fixed_shape, ref_shape, stmt_shape, width_tree, listed}
use Rattle.pr_parse_print.proofs.Puts.{no_put, then_put, word_put, shaped}
use Rattle.pr_parse_print.proofs.Lists.{member_put}
use Rattle.pr_parse_print.proofs.statements.+statements.Goals as goal

pub put_stmts-loop-stmt-init : goal.put_stmts-loop-stmt-init
put_stmts-loop-stmt-init t c = no_put

pub put_stmts-loop-stmt-preserved : goal.put_stmts-loop-stmt-preserved
put_stmts-loop-stmt-preserved t c = member_put stmt_shape c.args.stmts.now c.loop-stmt.stmt-index c.stmt-item.result c.stmt-item.is c.loop-stmt-test.true c.loop-stmt.invariant c.in_ok-put_stmt.ensures

pub put_stmt-returns-in_ok-put_width-in-Let : goal.put_stmt-returns-in_ok-put_width-in-Let
put_stmt-returns-in_ok-put_width-in-Let t c =
    let e : stmt_shape c.args.stmt.now ≡ tree.let_stmt (ref_shape c.in-Let.target) (width_tree c.in-Let.width) (expr_shape c.in-Let.value) = ap stmt_shape (c.in-Let.is ∙ sym (rolls-Let c.in-Let.target c.in-Let.width c.in-Let.value)) ∙ rw fold-roll-Stmt (refl) in
    on_ok_weaker c.put_value.result (λ h. shaped e (word_put c.in_ok-put_keyword-in-Let.ensures (then_put c.in_ok-put_target-in-Let.ensures (then_put c.in_ok-put_width-in-Let.ensures h)))) c.put_value.ensures

pub put_stmt-returns-in_ok-put_expr-in-Rec : goal.put_stmt-returns-in_ok-put_expr-in-Rec
put_stmt-returns-in_ok-put_expr-in-Rec t c =
    let e : stmt_shape c.args.stmt.now ≡ tree.rec_stmt (ref_shape c.in-Rec.target) (width_tree c.in-Rec.width) (fixed_shape c.in-Rec.init) (expr_shape c.in-Rec.body) = ap stmt_shape (c.in-Rec.is ∙ sym (rolls-Rec c.in-Rec.target c.in-Rec.width c.in-Rec.init c.in-Rec.body)) ∙ rw fold-roll-Stmt (refl) in
    on_ok_weaker c.put_symbol-in-Rec.result (λ h. shaped e (word_put c.in_ok-put_keyword-in-Rec.ensures (then_put c.in_ok-put_target-in-Rec.ensures (then_put c.in_ok-put_width-in-Rec.ensures (word_put c.in_ok-put_symbol-in-Rec.ensures (then_put c.in_ok-put_fixed-in-Rec.ensures (word_put c.in_ok-put_keyword-in-Rec-2.ensures (then_put c.in_ok-put_expr-in-Rec.ensures h)))))))) c.put_symbol-in-Rec.ensures

pub put_stmt-returns-in_ok-put_stmts-in-For : goal.put_stmt-returns-in_ok-put_stmts-in-For
put_stmt-returns-in_ok-put_stmts-in-For t c =
    let e : stmt_shape c.args.stmt.now ≡ tree.for_stmt (name_tree c.in-For.index) (fixed_shape c.in-For.low) (fixed_shape c.in-For.high) (listed (map stmt_shape c.deref.result.now)) = ap stmt_shape (c.in-For.is ∙ sym (rolls-For c.in-For.index c.in-For.low c.in-For.high c.in-For.body)) ∙ rw fold-roll-Stmt (ap (λ l. tree.for_stmt (name_tree c.in-For.index) (fixed_shape c.in-For.low) (fixed_shape c.in-For.high) (listed (map stmt_shape l))) (sym c.deref.ensures.value)) in
    on_ok_weaker c.put_symbol-in-For-3.result (λ h. shaped e (then_put c.in_ok-put_named-in-For.ensures (word_put c.in_ok-put_keyword-in-For.ensures (then_put c.in_ok-put_fixed-in-For.ensures (word_put c.in_ok-put_symbol-in-For.ensures (then_put c.in_ok-put_fixed-in-For-2.ensures (word_put c.in_ok-put_symbol-in-For-2.ensures (then_put c.in_ok-put_stmts-in-For.ensures h)))))))) c.put_symbol-in-For-3.ensures

pub put_stmt-returns-in_err-put_keyword-in-Let : goal.put_stmt-returns-in_err-put_keyword-in-Let
put_stmt-returns-in_err-put_keyword-in-Let t c = IfOk-from_err _ _ c.from_residual.ensures.0

pub put_stmt-returns-in_err-put_target-in-Let : goal.put_stmt-returns-in_err-put_target-in-Let
put_stmt-returns-in_err-put_target-in-Let t c = IfOk-from_err _ _ c.from_residual-in_err-put_target-in-Let.ensures.0

pub put_stmt-returns-in_err-put_width-in-Let : goal.put_stmt-returns-in_err-put_width-in-Let
put_stmt-returns-in_err-put_width-in-Let t c = IfOk-from_err _ _ c.from_residual-in_err-put_width-in-Let.ensures.0

pub put_stmt-returns-in_err-put_keyword-in-Rec : goal.put_stmt-returns-in_err-put_keyword-in-Rec
put_stmt-returns-in_err-put_keyword-in-Rec t c = IfOk-from_err _ _ c.from_residual-in_err-put_keyword-in-Rec.ensures.0

pub put_stmt-returns-in_err-put_target-in-Rec : goal.put_stmt-returns-in_err-put_target-in-Rec
put_stmt-returns-in_err-put_target-in-Rec t c = IfOk-from_err _ _ c.from_residual-in_err-put_target-in-Rec.ensures.0

pub put_stmt-returns-in_err-put_width-in-Rec : goal.put_stmt-returns-in_err-put_width-in-Rec
put_stmt-returns-in_err-put_width-in-Rec t c = IfOk-from_err _ _ c.from_residual-in_err-put_width-in-Rec.ensures.0

pub put_stmt-returns-in_err-put_symbol-in-Rec : goal.put_stmt-returns-in_err-put_symbol-in-Rec
put_stmt-returns-in_err-put_symbol-in-Rec t c = IfOk-from_err _ _ c.from_residual-in_err-put_symbol-in-Rec.ensures.0

pub put_stmt-returns-in_err-put_fixed-in-Rec : goal.put_stmt-returns-in_err-put_fixed-in-Rec
put_stmt-returns-in_err-put_fixed-in-Rec t c = IfOk-from_err _ _ c.from_residual-in_err-put_fixed-in-Rec.ensures.0

pub put_stmt-returns-in_err-put_keyword-in-Rec-2 : goal.put_stmt-returns-in_err-put_keyword-in-Rec-2
put_stmt-returns-in_err-put_keyword-in-Rec-2 t c = IfOk-from_err _ _ c.from_residual-in_err-put_keyword-in-Rec-2.ensures.0

pub put_stmt-returns-in_err-put_expr-in-Rec : goal.put_stmt-returns-in_err-put_expr-in-Rec
put_stmt-returns-in_err-put_expr-in-Rec t c = IfOk-from_err _ _ c.from_residual-in_err-put_expr-in-Rec.ensures.0

pub put_stmt-returns-in_err-put_named-in-For : goal.put_stmt-returns-in_err-put_named-in-For
put_stmt-returns-in_err-put_named-in-For t c = IfOk-from_err _ _ c.from_residual-in_err-put_named-in-For.ensures.0

pub put_stmt-returns-in_err-put_keyword-in-For : goal.put_stmt-returns-in_err-put_keyword-in-For
put_stmt-returns-in_err-put_keyword-in-For t c = IfOk-from_err _ _ c.from_residual-in_err-put_keyword-in-For.ensures.0

pub put_stmt-returns-in_err-put_fixed-in-For : goal.put_stmt-returns-in_err-put_fixed-in-For
put_stmt-returns-in_err-put_fixed-in-For t c = IfOk-from_err _ _ c.from_residual-in_err-put_fixed-in-For.ensures.0

pub put_stmt-returns-in_err-put_symbol-in-For : goal.put_stmt-returns-in_err-put_symbol-in-For
put_stmt-returns-in_err-put_symbol-in-For t c = IfOk-from_err _ _ c.from_residual-in_err-put_symbol-in-For.ensures.0

pub put_stmt-returns-in_err-put_fixed-in-For-2 : goal.put_stmt-returns-in_err-put_fixed-in-For-2
put_stmt-returns-in_err-put_fixed-in-For-2 t c = IfOk-from_err _ _ c.from_residual-in_err-put_fixed-in-For-2.ensures.0

pub put_stmt-returns-in_err-put_symbol-in-For-2 : goal.put_stmt-returns-in_err-put_symbol-in-For-2
put_stmt-returns-in_err-put_symbol-in-For-2 t c = IfOk-from_err _ _ c.from_residual-in_err-put_symbol-in-For-2.ensures.0

pub put_stmt-returns-in_err-put_stmts-in-For : goal.put_stmt-returns-in_err-put_stmts-in-For
put_stmt-returns-in_err-put_stmts-in-For t c = IfOk-from_err _ _ c.from_residual-in_err-put_stmts-in-For.ensures.0
