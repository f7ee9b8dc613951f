use Rattle.std.proofs.Common.{[], ◌∷◌, refl}
use Rattle.std.proofs.lemmas.Result.{IfOk-from_err, err_from_is_err_and}
use Rattle.pr_lang.specs.declared.tokens.Symbol.TheVariants.{Colon}
use Rattle.pr_lang.specs.Word.{this_symbol}
use Rattle.pr_lang.specs.Tree as tree
use Rattle.pr_parse.proofs.Steps.{begun, open_rule, open_then, there, absent, made, took, not_there, by_test}
use Rattle.pr_parse.proofs.fixed.width.Goals as goal

pub returns-then-not-is-clause-ok : goal.returns-then-not-is-clause-ok
returns-then-not-is-clause-ok c = absent (by_test (this_symbol Colon) _ c.args.text.now c.args.tokens.now (c.is.ensures c.args.text.now) c.if-not-is.true) (made (tree.no_width ∷ []) (λ ts. refl) (open_then (open_rule begun)))

pub returns-in_err-after-clause-err : goal.returns-in_err-after-clause-err
returns-in_err-after-clause-err c = let p = err_from_is_err_and c.from_residual.result c.from_residual.ensures.1 in rw (p.1, p.2) (not_there c.in_err-after.field-0.0 (c.in_err-after.ensures.err c.args.text.now) (open_then (there (by_test (this_symbol Colon) _ c.args.text.now c.args.tokens.now (c.is.ensures c.args.text.now) c.if-not-is.false) (made (tree.no_width ∷ []) (λ ts. refl) (open_then (open_rule begun))))))

pub returns-in_err-after-clause-ok : goal.returns-in_err-after-clause-ok
returns-in_err-after-clause-ok c = IfOk-from_err _ _ c.from_residual.ensures.0

pub returns-in_err-value-clause-err : goal.returns-in_err-value-clause-err
returns-in_err-value-clause-err c = let p = err_from_is_err_and c.from_residual-in_err-value.result c.from_residual-in_err-value.ensures.1 in rw (p.1, p.2) (not_there c.in_err-value.field-0.0 (c.in_err-value.ensures.err c.args.text.now) (open_then (took (c.in_ok-after.ensures.ok c.args.text.now) refl (open_then (there (by_test (this_symbol Colon) _ c.args.text.now c.args.tokens.now (c.is.ensures c.args.text.now) c.if-not-is.false) (made (tree.no_width ∷ []) (λ ts. refl) (open_then (open_rule begun))))))))

pub returns-in_err-value-clause-ok : goal.returns-in_err-value-clause-ok
returns-in_err-value-clause-ok c = IfOk-from_err _ _ c.from_residual-in_err-value.ensures.0

pub returns-clause-ok : goal.returns-clause-ok
returns-clause-ok c = made _ (λ ts. refl) (took (c.in_ok-value.ensures.ok c.args.text.now) refl (open_then (took (c.in_ok-after.ensures.ok c.args.text.now) refl (open_then (there (by_test (this_symbol Colon) _ c.args.text.now c.args.tokens.now (c.is.ensures c.args.text.now) c.if-not-is.false) (made (tree.no_width ∷ []) (λ ts. refl) (open_then (open_rule begun))))))))
