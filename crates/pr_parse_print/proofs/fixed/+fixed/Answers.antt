use Rattle.std.proofs.Common.{◌≡◌, ◌∙◌, ap, ap₂, sym, Some}
use Rattle.std.proofs.lemmas.Result.{IfOk-from_err, on_ok_weaker}
use Rattle.pr_lang.specs.declared.trees.Fixed.TheFolds.{fold-roll-Fixed}
use Rattle.pr_lang.specs.declared.trees.Fixed.TheViews.{rolls-Refer, rolls-Binary, rolls-Paren}
use Rattle.pr_lang.specs.declared.trees.Fixed.TheVariants.{Refer}
use Rattle.pr_lang.specs.Tree as tree
use Rattle.pr_lang.specs.Is.{name_tree, sign_tree}
use Rattle.pr_lang.specs.Shape.{fixed_shape, fixed_sign_of}
use Rattle.pr_parse_print.proofs.Puts.{then_put, word_put, shaped}
use Rattle.pr_parse_print.proofs.fixed.+fixed.Goals as goal

pub put_index-returns : goal.put_index-returns
put_index-returns t c = on_ok_weaker c.put_symbol-2.result (λ h. word_put c.in_ok-put_symbol.ensures (then_put c.in_ok-put_fixed.ensures h)) c.put_symbol-2.ensures

pub put_fixed-returns-in-Some : goal.put_fixed-returns-in-Some
put_fixed-returns-in-Some t c =
    let e : fixed_shape c.args.fixed.now ≡ tree.refer (name_tree c.in-Refer.name) (tree.index (fixed_shape c.deref.result.now)) = ap fixed_shape (c.in-Refer.is ∙ ap (λ o. Refer c.in-Refer.name o) c.in-Some.is ∙ sym (rolls-Refer c.in-Refer.name (Some c.in-Some.index))) ∙ rw fold-roll-Fixed (ap (λ x. tree.refer (name_tree c.in-Refer.name) (tree.index (fixed_shape x))) (sym c.deref.ensures)) in
    on_ok_weaker c.put_index.result (λ h. shaped e (then_put c.in_ok-put_name-in-Refer.ensures h)) c.put_index.ensures

pub put_fixed-returns-in_ok-put_symbol-in-Binary : goal.put_fixed-returns-in_ok-put_symbol-in-Binary
put_fixed-returns-in_ok-put_symbol-in-Binary t c =
    let e : fixed_shape c.args.fixed.now ≡ tree.binary (sign_tree c.fixed_sign_of.result) (fixed_shape c.deref-in-Binary.result.now) (fixed_shape c.deref-in-Binary-2.result.now) = ap fixed_shape (c.in-Binary.is ∙ sym (rolls-Binary c.in-Binary.op c.in-Binary.left c.in-Binary.right)) ∙ rw fold-roll-Fixed (ap₂ (λ x y. tree.binary (sign_tree (fixed_sign_of c.in-Binary.op)) (fixed_shape x) (fixed_shape y)) (sym c.deref-in-Binary.ensures) (sym c.deref-in-Binary-2.ensures) ∙ ap (λ s. tree.binary (sign_tree s) (fixed_shape c.deref-in-Binary.result.now) (fixed_shape c.deref-in-Binary-2.result.now)) (sym c.fixed_sign_of.ensures)) in
    on_ok_weaker c.put_fixed-in-Binary.result (λ h. shaped e (then_put c.in_ok-put_fixed-in-Binary.ensures (then_put c.in_ok-put_symbol-in-Binary.ensures h))) c.put_fixed-in-Binary.ensures

pub put_fixed-returns-in_ok-put_fixed-in-Paren : goal.put_fixed-returns-in_ok-put_fixed-in-Paren
put_fixed-returns-in_ok-put_fixed-in-Paren t c =
    let e : fixed_shape c.args.fixed.now ≡ tree.paren (fixed_shape c.deref-in-Paren.result.now) = ap fixed_shape (c.in-Paren.is ∙ sym (rolls-Paren c.in-Paren.inner)) ∙ rw fold-roll-Fixed (ap (λ x. tree.paren (fixed_shape x)) (sym c.deref-in-Paren.ensures)) in
    on_ok_weaker c.put_symbol-in-Paren-2.result (λ h. shaped e (word_put c.in_ok-put_symbol-in-Paren.ensures (then_put c.in_ok-put_fixed-in-Paren.ensures h))) c.put_symbol-in-Paren-2.ensures

pub put_fixed-returns-in_err-put_name-in-Refer : goal.put_fixed-returns-in_err-put_name-in-Refer
put_fixed-returns-in_err-put_name-in-Refer t c = IfOk-from_err _ _ c.from_residual.ensures.0

pub put_fixed-returns-in_err-put_fixed-in-Binary : goal.put_fixed-returns-in_err-put_fixed-in-Binary
put_fixed-returns-in_err-put_fixed-in-Binary t c = IfOk-from_err _ _ c.from_residual-in_err-put_fixed-in-Binary.ensures.0

pub put_fixed-returns-in_err-put_symbol-in-Binary : goal.put_fixed-returns-in_err-put_symbol-in-Binary
put_fixed-returns-in_err-put_symbol-in-Binary t c = IfOk-from_err _ _ c.from_residual-in_err-put_symbol-in-Binary.ensures.0

pub put_fixed-returns-in_err-put_fixed-in-Paren : goal.put_fixed-returns-in_err-put_fixed-in-Paren
put_fixed-returns-in_err-put_fixed-in-Paren t c = IfOk-from_err _ _ c.from_residual-in_err-put_fixed-in-Paren.ensures.0
