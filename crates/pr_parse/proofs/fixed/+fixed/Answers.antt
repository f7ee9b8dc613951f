use Rattle.std.proofs.Common.{[], ◌∷◌, refl}
use Rattle.std.proofs.lemmas.Result.{IfOk-from_err, err_from_is_err_and, IfOk-weaker}
use Rattle.pr_lang.specs.declared.tokens.Symbol.TheVariants.{OpenRound, OpenSquare}
use Rattle.pr_lang.specs.Word.{any_number, this_symbol, one_of}
use Rattle.pr_lang.specs.Tree as tree
use Rattle.pr_parse.proofs.Steps.{begun, open_rule, open_then, first, second, there, absent, no_more, made, took, not_there, read, failed, passed_on, by_test, by_one, by_none, by_none_one, operator, operated}
use Rattle.pr_parse.proofs.fixed.+fixed.Goals as goal

pub fixed-returns-in_err-left-clause-err : goal.fixed-returns-in_err-left-clause-err
fixed-returns-in_err-left-clause-err t c = let p = err_from_is_err_and c.from_residual.result c.from_residual.ensures.1 in rw (p.1, p.2) (failed c.in_err-left.field-0.0 c.in_err-left.ensures.err (open_then (open_rule begun)))

pub fixed-returns-in_err-left-clause-ok : goal.fixed-returns-in_err-left-clause-ok
fixed-returns-in_err-left-clause-ok t c = IfOk-from_err _ _ c.from_residual.ensures.0

pub fixed-loop-op-init : goal.fixed-loop-op-init
fixed-loop-op-init t c = read c.in_ok-left.ensures.ok (open_then (open_rule begun))

pub fixed-returns-in_err-right-clause-err : goal.fixed-returns-in_err-right-clause-err
fixed-returns-in_err-right-clause-err t c = let p = err_from_is_err_and c.from_residual-in_err-right.result c.from_residual-in_err-right.ensures.1 in rw (p.1, p.2) (failed c.in_err-right.field-0.0 c.in_err-right.ensures.err (operator _ (c.in-Some.ensures.found c.args.text.now) c.loop-op.invariant))

pub fixed-returns-in_err-right-clause-ok : goal.fixed-returns-in_err-right-clause-ok
fixed-returns-in_err-right-clause-ok t c = IfOk-from_err _ _ c.from_residual-in_err-right.ensures.0

pub fixed-loop-op-preserved : goal.fixed-loop-op-preserved
fixed-loop-op-preserved t c = rw c.in_ok-left-2.ensures.ok (operated _ (c.in-Some.ensures.found c.args.text.now) c.in_ok-right.ensures.ok c.loop-op.invariant)

pub fixed-returns-clause-ok : goal.fixed-returns-clause-ok
fixed-returns-clause-ok t c = no_more (by_none (one_of _) _ c.args.text.now c.loop-op.rest.now (c.in_default.ensures.found c.args.text.now)) c.loop-op.invariant

pub product-returns-in_err-left-clause-err : goal.product-returns-in_err-left-clause-err
product-returns-in_err-left-clause-err t c = let p = err_from_is_err_and c.from_residual.result c.from_residual.ensures.1 in rw (p.1, p.2) (failed c.in_err-left.field-0.0 c.in_err-left.ensures.err (open_then (open_rule begun)))

pub product-returns-in_err-left-clause-ok : goal.product-returns-in_err-left-clause-ok
product-returns-in_err-left-clause-ok t c = IfOk-from_err _ _ c.from_residual.ensures.0

pub product-loop-op-init : goal.product-loop-op-init
product-loop-op-init t c = read c.in_ok-left.ensures.ok (open_then (open_rule begun))

pub product-returns-in_err-right-clause-err : goal.product-returns-in_err-right-clause-err
product-returns-in_err-right-clause-err t c = let p = err_from_is_err_and c.from_residual-in_err-right.result c.from_residual-in_err-right.ensures.1 in rw (p.1, p.2) (failed c.in_err-right.field-0.0 c.in_err-right.ensures.err (operator _ (c.in-Some.ensures.found c.args.text.now) c.loop-op.invariant))

pub product-returns-in_err-right-clause-ok : goal.product-returns-in_err-right-clause-ok
product-returns-in_err-right-clause-ok t c = IfOk-from_err _ _ c.from_residual-in_err-right.ensures.0

pub product-loop-op-preserved : goal.product-loop-op-preserved
product-loop-op-preserved t c = rw c.in_ok-left-2.ensures.ok (operated _ (c.in-Some.ensures.found c.args.text.now) c.in_ok-right.ensures.ok c.loop-op.invariant)

pub product-returns-clause-ok : goal.product-returns-clause-ok
product-returns-clause-ok t c = no_more (by_none (one_of _) _ c.args.text.now c.loop-op.rest.now (c.in_default.ensures.found c.args.text.now)) c.loop-op.invariant

pub primary-returns-in-Ok-clause-ok : goal.primary-returns-in-Ok-clause-ok
primary-returns-in-Ok-clause-ok t c = rw c.fixed_number.ensures (took (c.in-Ok.ensures.ok c.args.text.now) refl (first (by_one any_number (c.in-Ok.ensures.ok c.args.text.now) refl) (open_rule begun)))

pub primary-returns-then-is-clause-ok : goal.primary-returns-then-is-clause-ok
primary-returns-then-is-clause-ok t c = IfOk-weaker _ _ _ (λ x r. read r (first (by_test (this_symbol OpenRound) _ c.args.text.now c.args.tokens.now (c.is.ensures c.args.text.now) c.if-is.true) (second (by_none_one any_number c.args.text.now c.args.tokens.now (c.in_default.ensures.err c.args.text.now).other) (open_rule begun)))) c.grouped.ensures.ok

pub primary-returns-then-is-clause-err : goal.primary-returns-then-is-clause-err
primary-returns-then-is-clause-err t c = passed_on c.grouped.result (first (by_test (this_symbol OpenRound) _ c.args.text.now c.args.tokens.now (c.is.ensures c.args.text.now) c.if-is.true) (second (by_none_one any_number c.args.text.now c.args.tokens.now (c.in_default.ensures.err c.args.text.now).other) (open_rule begun))) c.grouped.ensures.err

pub grouped-returns-in_err-inside-clause-err : goal.grouped-returns-in_err-inside-clause-err
grouped-returns-in_err-inside-clause-err t c = let p = err_from_is_err_and c.from_residual.result c.from_residual.ensures.1 in rw (p.1, p.2) (not_there c.in_err-inside.field-0.0 (c.in_err-inside.ensures.err c.args.text.now) (open_then begun))

pub grouped-returns-in_err-inside-clause-ok : goal.grouped-returns-in_err-inside-clause-ok
grouped-returns-in_err-inside-clause-ok t c = IfOk-from_err _ _ c.from_residual.ensures.0

pub grouped-returns-in_err-inner-clause-err : goal.grouped-returns-in_err-inner-clause-err
grouped-returns-in_err-inner-clause-err t c = let p = err_from_is_err_and c.from_residual-in_err-inner.result c.from_residual-in_err-inner.ensures.1 in rw (p.1, p.2) (failed c.in_err-inner.field-0.0 c.in_err-inner.ensures.err (open_then (took (c.in_ok-inside.ensures.ok c.args.text.now) refl (open_then begun))))

pub grouped-returns-in_err-inner-clause-ok : goal.grouped-returns-in_err-inner-clause-ok
grouped-returns-in_err-inner-clause-ok t c = IfOk-from_err _ _ c.from_residual-in_err-inner.ensures.0

pub grouped-returns-in_err-rest-clause-err : goal.grouped-returns-in_err-rest-clause-err
grouped-returns-in_err-rest-clause-err t c = let p = err_from_is_err_and c.from_residual-in_err-rest.result c.from_residual-in_err-rest.ensures.1 in rw (p.1, p.2) (not_there c.in_err-rest.field-0.0 (c.in_err-rest.ensures.err c.args.text.now) (open_then (read c.in_ok-inner.ensures.ok (open_then (took (c.in_ok-inside.ensures.ok c.args.text.now) refl (open_then begun))))))

pub grouped-returns-in_err-rest-clause-ok : goal.grouped-returns-in_err-rest-clause-ok
grouped-returns-in_err-rest-clause-ok t c = IfOk-from_err _ _ c.from_residual-in_err-rest.ensures.0

pub grouped-returns-clause-ok : goal.grouped-returns-clause-ok
grouped-returns-clause-ok t c = rw c.in_ok-whole.ensures.ok (made _ (λ ts. refl) (took (c.in_ok-rest.ensures.ok c.args.text.now) refl (open_then (read c.in_ok-inner.ensures.ok (open_then (took (c.in_ok-inside.ensures.ok c.args.text.now) refl (open_then begun)))))))

pub primary-returns-in_err-bytes-clause-err : goal.primary-returns-in_err-bytes-clause-err
primary-returns-in_err-bytes-clause-err t c = let p = err_from_is_err_and c.from_residual.result c.from_residual.ensures.1 in rw (p.1, p.2) (not_there c.in_err-bytes.field-0.0 c.in_err-bytes.ensures.err (open_then (second (by_test (this_symbol OpenRound) _ c.args.text.now c.args.tokens.now (c.is.ensures c.args.text.now) c.if-is.false) (second (by_none_one any_number c.args.text.now c.args.tokens.now (c.in_default.ensures.err c.args.text.now).other) (open_rule begun)))))

pub primary-returns-in_err-bytes-clause-ok : goal.primary-returns-in_err-bytes-clause-ok
primary-returns-in_err-bytes-clause-ok t c = IfOk-from_err _ _ c.from_residual.ensures.0

pub primary-returns-in_err-index-clause-err : goal.primary-returns-in_err-index-clause-err
primary-returns-in_err-index-clause-err t c = let p = err_from_is_err_and c.from_residual-in_err-index.result c.from_residual-in_err-index.ensures.1 in rw (p.1, p.2) (failed c.in_err-index.field-0.0 c.in_err-index.ensures.err (open_then (took c.in_ok-bytes.ensures.ok refl (open_then (second (by_test (this_symbol OpenRound) _ c.args.text.now c.args.tokens.now (c.is.ensures c.args.text.now) c.if-is.false) (second (by_none_one any_number c.args.text.now c.args.tokens.now (c.in_default.ensures.err c.args.text.now).other) (open_rule begun)))))))

pub primary-returns-in_err-index-clause-ok : goal.primary-returns-in_err-index-clause-ok
primary-returns-in_err-index-clause-ok t c = IfOk-from_err _ _ c.from_residual-in_err-index.ensures.0

pub primary-returns-clause-ok : goal.primary-returns-clause-ok
primary-returns-clause-ok t c = rw (c.in_ok-whole.ensures.ok, c.in_ok-name.ensures.ok) (made _ (λ ts. refl) (read c.in_ok-index.ensures.ok (open_then (took c.in_ok-bytes.ensures.ok refl (open_then (second (by_test (this_symbol OpenRound) _ c.args.text.now c.args.tokens.now (c.is.ensures c.args.text.now) c.if-is.false) (second (by_none_one any_number c.args.text.now c.args.tokens.now (c.in_default.ensures.err c.args.text.now).other) (open_rule begun))))))))

pub index-returns-then-not-is-clause-ok : goal.index-returns-then-not-is-clause-ok
index-returns-then-not-is-clause-ok t c = absent (by_test (this_symbol OpenSquare) _ c.args.text.now c.args.tokens.now (c.is.ensures c.args.text.now) c.if-not-is.true) (made (tree.no_index ∷ []) (λ ts. refl) (open_then (open_rule begun)))

pub index-returns-in_err-inside-clause-err : goal.index-returns-in_err-inside-clause-err
index-returns-in_err-inside-clause-err t c = let p = err_from_is_err_and c.from_residual.result c.from_residual.ensures.1 in rw (p.1, p.2) (not_there c.in_err-inside.field-0.0 (c.in_err-inside.ensures.err c.args.text.now) (open_then (there (by_test (this_symbol OpenSquare) _ c.args.text.now c.args.tokens.now (c.is.ensures c.args.text.now) c.if-not-is.false) (made (tree.no_index ∷ []) (λ ts. refl) (open_then (open_rule begun))))))

pub index-returns-in_err-inside-clause-ok : goal.index-returns-in_err-inside-clause-ok
index-returns-in_err-inside-clause-ok t c = IfOk-from_err _ _ c.from_residual.ensures.0

pub index-returns-in_err-value-clause-err : goal.index-returns-in_err-value-clause-err
index-returns-in_err-value-clause-err t c = let p = err_from_is_err_and c.from_residual-in_err-value.result c.from_residual-in_err-value.ensures.1 in rw (p.1, p.2) (failed c.in_err-value.field-0.0 c.in_err-value.ensures.err (open_then (took (c.in_ok-inside.ensures.ok c.args.text.now) refl (open_then (there (by_test (this_symbol OpenSquare) _ c.args.text.now c.args.tokens.now (c.is.ensures c.args.text.now) c.if-not-is.false) (made (tree.no_index ∷ []) (λ ts. refl) (open_then (open_rule begun))))))))

pub index-returns-in_err-value-clause-ok : goal.index-returns-in_err-value-clause-ok
index-returns-in_err-value-clause-ok t c = IfOk-from_err _ _ c.from_residual-in_err-value.ensures.0

pub index-returns-in_err-rest-clause-err : goal.index-returns-in_err-rest-clause-err
index-returns-in_err-rest-clause-err t c = let p = err_from_is_err_and c.from_residual-in_err-rest.result c.from_residual-in_err-rest.ensures.1 in rw (p.1, p.2) (not_there c.in_err-rest.field-0.0 (c.in_err-rest.ensures.err c.args.text.now) (open_then (read c.in_ok-value.ensures.ok (open_then (took (c.in_ok-inside.ensures.ok c.args.text.now) refl (open_then (there (by_test (this_symbol OpenSquare) _ c.args.text.now c.args.tokens.now (c.is.ensures c.args.text.now) c.if-not-is.false) (made (tree.no_index ∷ []) (λ ts. refl) (open_then (open_rule begun))))))))))

pub index-returns-in_err-rest-clause-ok : goal.index-returns-in_err-rest-clause-ok
index-returns-in_err-rest-clause-ok t c = IfOk-from_err _ _ c.from_residual-in_err-rest.ensures.0

pub index-returns-clause-ok : goal.index-returns-clause-ok
index-returns-clause-ok t c = made _ (λ ts. refl) (took (c.in_ok-rest.ensures.ok c.args.text.now) refl (open_then (read c.in_ok-value.ensures.ok (open_then (took (c.in_ok-inside.ensures.ok c.args.text.now) refl (open_then (there (by_test (this_symbol OpenSquare) _ c.args.text.now c.args.tokens.now (c.is.ensures c.args.text.now) c.if-not-is.false) (made (tree.no_index ∷ []) (λ ts. refl) (open_then (open_rule begun))))))))))
