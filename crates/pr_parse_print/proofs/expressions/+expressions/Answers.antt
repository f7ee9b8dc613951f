use Rattle.std.proofs.Common.{◌≡◌, ◌∙◌, ap, ap₂, sym, refl, map}
use Rattle.std.proofs.lemmas.Result.{IfOk-from_err, on_ok_weaker}
use Rattle.pr_lang.specs.declared.trees.Expr.TheFolds.{fold-roll-Expr}
use Rattle.pr_lang.specs.declared.trees.Expr.TheViews.{rolls-Delay, rolls-Slice, rolls-Not, rolls-Binary, rolls-Choose, rolls-Call, rolls-Cat, rolls-Paren}
use Rattle.pr_lang.specs.Tree as tree
use Rattle.pr_lang.specs.Is.{name_tree, sign_tree}
use Rattle.pr_lang.specs.Shape.{expr_shape, sign_of, fixed_shape, ref_shape, comma_listed}
use Rattle.pr_parse_print.proofs.Puts.{no_put, then_put, word_put, shaped}
use Rattle.pr_parse_print.proofs.Lists.{element_put}
use Rattle.pr_parse_print.proofs.expressions.+expressions.Goals as goal

pub put_arguments-returns : goal.put_arguments-returns
put_arguments-returns t c = on_ok_weaker c.put_symbol-2.result (λ h. word_put c.in_ok-put_symbol.ensures (then_put c.in_ok-put_exprs.ensures h)) c.put_symbol-2.ensures

pub put_exprs-loop-i-init : goal.put_exprs-loop-i-init
put_exprs-loop-i-init t c = no_put

pub put_exprs-loop-i-preserved : goal.put_exprs-loop-i-preserved
put_exprs-loop-i-preserved t c = element_put expr_shape c.args.list.now c.loop-i.i c.index-list-i.result c.index-list-i.is c.loop-i-test.true c.loop-i.invariant c.in_ok-put_comma.ensures c.in_ok-put_expr.ensures

pub put_expr-returns-in_ok-put_symbol-in-Delay : goal.put_expr-returns-in_ok-put_symbol-in-Delay
put_expr-returns-in_ok-put_symbol-in-Delay t c =
    let e : expr_shape c.args.expr.now ≡ tree.delay (ref_shape c.in-Delay.target) (fixed_shape c.in-Delay.samples) = ap expr_shape (c.in-Delay.is ∙ sym (rolls-Delay c.in-Delay.target c.in-Delay.samples)) ∙ rw fold-roll-Expr (refl) in
    on_ok_weaker c.put_fixed.result (λ h. shaped e (then_put c.in_ok-put_target-in-Delay.ensures (word_put c.in_ok-put_symbol-in-Delay.ensures h))) c.put_fixed.ensures

pub put_expr-returns-in_ok-put_expr-in-Slice : goal.put_expr-returns-in_ok-put_expr-in-Slice
put_expr-returns-in_ok-put_expr-in-Slice t c =
    let e : expr_shape c.args.expr.now ≡ tree.slice (expr_shape c.deref.result.now) (fixed_shape c.in-Slice.high) (fixed_shape c.in-Slice.low) = ap expr_shape (c.in-Slice.is ∙ sym (rolls-Slice c.in-Slice.inner c.in-Slice.high c.in-Slice.low)) ∙ rw fold-roll-Expr (ap (λ x. tree.slice (expr_shape x) (fixed_shape c.in-Slice.high) (fixed_shape c.in-Slice.low)) (sym c.deref.ensures)) in
    on_ok_weaker c.put_ends.result (λ h. shaped e (then_put c.in_ok-put_expr-in-Slice.ensures h)) c.put_ends.ensures

pub put_expr-returns-in_ok-put_symbol-in-Not : goal.put_expr-returns-in_ok-put_symbol-in-Not
put_expr-returns-in_ok-put_symbol-in-Not t c =
    let e : expr_shape c.args.expr.now ≡ tree.not (expr_shape c.deref-in-Not.result.now) = ap expr_shape (c.in-Not.is ∙ sym (rolls-Not c.in-Not.inner)) ∙ rw fold-roll-Expr (ap (λ x. tree.not (expr_shape x)) (sym c.deref-in-Not.ensures)) in
    on_ok_weaker c.put_expr-in-Not.result (λ h. shaped e (word_put c.in_ok-put_symbol-in-Not.ensures h)) c.put_expr-in-Not.ensures

pub put_expr-returns-in_ok-put_symbol-in-Binary : goal.put_expr-returns-in_ok-put_symbol-in-Binary
put_expr-returns-in_ok-put_symbol-in-Binary t c =
    let e : expr_shape c.args.expr.now ≡ tree.binary (sign_tree c.sign_of.result) (expr_shape c.deref-in-Binary.result.now) (expr_shape c.deref-in-Binary-2.result.now) = ap expr_shape (c.in-Binary.is ∙ sym (rolls-Binary c.in-Binary.op c.in-Binary.left c.in-Binary.right)) ∙ rw fold-roll-Expr (ap₂ (λ x y. tree.binary (sign_tree (sign_of c.in-Binary.op)) (expr_shape x) (expr_shape y)) (sym c.deref-in-Binary.ensures) (sym c.deref-in-Binary-2.ensures) ∙ ap (λ s. tree.binary (sign_tree s) (expr_shape c.deref-in-Binary.result.now) (expr_shape c.deref-in-Binary-2.result.now)) (sym c.sign_of.ensures)) in
    on_ok_weaker c.put_expr-in-Binary-2.result (λ h. shaped e (then_put c.in_ok-put_expr-in-Binary.ensures (then_put c.in_ok-put_symbol-in-Binary.ensures h))) c.put_expr-in-Binary-2.ensures

pub put_expr-returns-in_ok-put_symbol-in-Choose-2 : goal.put_expr-returns-in_ok-put_symbol-in-Choose-2
put_expr-returns-in_ok-put_symbol-in-Choose-2 t c =
    let e : expr_shape c.args.expr.now ≡ tree.choose (expr_shape c.deref-in-Choose.result.now) (expr_shape c.deref-in-Choose-2.result.now) (expr_shape c.deref-in-Choose-3.result.now) = ap expr_shape (c.in-Choose.is ∙ sym (rolls-Choose c.in-Choose.test c.in-Choose.yes c.in-Choose.no)) ∙ rw fold-roll-Expr (ap₂ (λ x y. tree.choose (expr_shape x) (expr_shape y) (expr_shape c.in-Choose.no.value)) (sym c.deref-in-Choose.ensures) (sym c.deref-in-Choose-2.ensures) ∙ ap (λ x. tree.choose (expr_shape c.deref-in-Choose.result.now) (expr_shape c.deref-in-Choose-2.result.now) (expr_shape x)) (sym c.deref-in-Choose-3.ensures)) in
    on_ok_weaker c.put_expr-in-Choose-3.result (λ h. shaped e (then_put c.in_ok-put_expr-in-Choose.ensures (word_put c.in_ok-put_symbol-in-Choose.ensures (then_put c.in_ok-put_expr-in-Choose-2.ensures (word_put c.in_ok-put_symbol-in-Choose-2.ensures h))))) c.put_expr-in-Choose-3.ensures

pub put_expr-returns-in_ok-put_name-in-Call : goal.put_expr-returns-in_ok-put_name-in-Call
put_expr-returns-in_ok-put_name-in-Call t c =
    let e : expr_shape c.args.expr.now ≡ tree.call (name_tree c.in-Call.name) (comma_listed (map expr_shape c.deref-in-Call.result.now)) = ap expr_shape (c.in-Call.is ∙ sym (rolls-Call c.in-Call.name c.in-Call.args)) ∙ rw fold-roll-Expr (ap (λ l. tree.call (name_tree c.in-Call.name) (comma_listed (map expr_shape l))) (sym c.deref-in-Call.ensures.value)) in
    on_ok_weaker c.put_arguments.result (λ h. shaped e (then_put c.in_ok-put_name-in-Call.ensures h)) c.put_arguments.ensures

pub put_expr-returns-in_ok-put_keyword-in-Cat : goal.put_expr-returns-in_ok-put_keyword-in-Cat
put_expr-returns-in_ok-put_keyword-in-Cat t c =
    let e : expr_shape c.args.expr.now ≡ tree.cat (comma_listed (map expr_shape c.deref-in-Cat.result.now)) = ap expr_shape (c.in-Cat.is ∙ sym (rolls-Cat c.in-Cat.parts)) ∙ rw fold-roll-Expr (ap (λ l. tree.cat (comma_listed (map expr_shape l))) (sym c.deref-in-Cat.ensures.value)) in
    on_ok_weaker c.put_arguments-in-Cat.result (λ h. shaped e (word_put c.in_ok-put_keyword-in-Cat.ensures h)) c.put_arguments-in-Cat.ensures

pub put_expr-returns-in_ok-put_expr-in-Paren : goal.put_expr-returns-in_ok-put_expr-in-Paren
put_expr-returns-in_ok-put_expr-in-Paren t c =
    let e : expr_shape c.args.expr.now ≡ tree.paren (expr_shape c.deref-in-Paren.result.now) = ap expr_shape (c.in-Paren.is ∙ sym (rolls-Paren c.in-Paren.inner)) ∙ rw fold-roll-Expr (ap (λ x. tree.paren (expr_shape x)) (sym c.deref-in-Paren.ensures)) in
    on_ok_weaker c.put_symbol-in-Paren-2.result (λ h. shaped e (word_put c.in_ok-put_symbol-in-Paren.ensures (then_put c.in_ok-put_expr-in-Paren.ensures h))) c.put_symbol-in-Paren-2.ensures

pub put_expr-returns-in_err-put_target-in-Delay : goal.put_expr-returns-in_err-put_target-in-Delay
put_expr-returns-in_err-put_target-in-Delay t c = IfOk-from_err _ _ c.from_residual.ensures.0

pub put_expr-returns-in_err-put_symbol-in-Delay : goal.put_expr-returns-in_err-put_symbol-in-Delay
put_expr-returns-in_err-put_symbol-in-Delay t c = IfOk-from_err _ _ c.from_residual-in_err-put_symbol-in-Delay.ensures.0

pub put_expr-returns-in_err-put_expr-in-Slice : goal.put_expr-returns-in_err-put_expr-in-Slice
put_expr-returns-in_err-put_expr-in-Slice t c = IfOk-from_err _ _ c.from_residual-in_err-put_expr-in-Slice.ensures.0

pub put_expr-returns-in_err-put_symbol-in-Not : goal.put_expr-returns-in_err-put_symbol-in-Not
put_expr-returns-in_err-put_symbol-in-Not t c = IfOk-from_err _ _ c.from_residual-in_err-put_symbol-in-Not.ensures.0

pub put_expr-returns-in_err-put_expr-in-Binary : goal.put_expr-returns-in_err-put_expr-in-Binary
put_expr-returns-in_err-put_expr-in-Binary t c = IfOk-from_err _ _ c.from_residual-in_err-put_expr-in-Binary.ensures.0

pub put_expr-returns-in_err-put_symbol-in-Binary : goal.put_expr-returns-in_err-put_symbol-in-Binary
put_expr-returns-in_err-put_symbol-in-Binary t c = IfOk-from_err _ _ c.from_residual-in_err-put_symbol-in-Binary.ensures.0

pub put_expr-returns-in_err-put_expr-in-Choose : goal.put_expr-returns-in_err-put_expr-in-Choose
put_expr-returns-in_err-put_expr-in-Choose t c = IfOk-from_err _ _ c.from_residual-in_err-put_expr-in-Choose.ensures.0

pub put_expr-returns-in_err-put_symbol-in-Choose : goal.put_expr-returns-in_err-put_symbol-in-Choose
put_expr-returns-in_err-put_symbol-in-Choose t c = IfOk-from_err _ _ c.from_residual-in_err-put_symbol-in-Choose.ensures.0

pub put_expr-returns-in_err-put_expr-in-Choose-2 : goal.put_expr-returns-in_err-put_expr-in-Choose-2
put_expr-returns-in_err-put_expr-in-Choose-2 t c = IfOk-from_err _ _ c.from_residual-in_err-put_expr-in-Choose-2.ensures.0

pub put_expr-returns-in_err-put_symbol-in-Choose-2 : goal.put_expr-returns-in_err-put_symbol-in-Choose-2
put_expr-returns-in_err-put_symbol-in-Choose-2 t c = IfOk-from_err _ _ c.from_residual-in_err-put_symbol-in-Choose-2.ensures.0

pub put_expr-returns-in_err-put_name-in-Call : goal.put_expr-returns-in_err-put_name-in-Call
put_expr-returns-in_err-put_name-in-Call t c = IfOk-from_err _ _ c.from_residual-in_err-put_name-in-Call.ensures.0

pub put_expr-returns-in_err-put_keyword-in-Cat : goal.put_expr-returns-in_err-put_keyword-in-Cat
put_expr-returns-in_err-put_keyword-in-Cat t c = IfOk-from_err _ _ c.from_residual-in_err-put_keyword-in-Cat.ensures.0

pub put_expr-returns-in_err-put_expr-in-Paren : goal.put_expr-returns-in_err-put_expr-in-Paren
put_expr-returns-in_err-put_expr-in-Paren t c = IfOk-from_err _ _ c.from_residual-in_err-put_expr-in-Paren.ensures.0
