use Rattle.std.proofs.Common.{[], ◌∷◌, refl, sym, ap, ◌∙◌}
use Rattle.std.proofs.lemmas.Result.{IfOk-from_err, err_from_is_err_and, IfOk-weaker}
use Rattle.pr_lang.specs.declared.tokens.Keyword.TheVariants.{Cat}
use Rattle.pr_lang.specs.declared.tokens.Symbol.TheVariants.{OpenRound, OpenCurly, Comma, At, Ask, Tilde}
use Rattle.pr_lang.specs.Word.{any_number, this_keyword, this_symbol, one_of}
use Rattle.pr_lang.specs.Grammar.{Exprs}
use Rattle.pr_lang.specs.Tree as tree
use Rattle.pr_parse.proofs.Begins.{begins_then_expr}
use Rattle.pr_parse.proofs.Steps.{begun, open_rule, open_then, first, second, there, absent, again, no_more, made, took, not_there, read, failed, passed_on, by_test, by_token, by_one, by_none, by_none_one, operator, operated, maybe_list}
use Rattle.pr_lang.specs.Grammar.{comparisons}
use Rattle.pr_lang.specs.Is.{name_tree}
use Rattle.pr_lang.specs.Shape.{index_shape}
use Rattle.pr_parse.specs.Kinds.{starts_expr}
use Rattle.pr_parse.proofs.Steps.{found_signs, none_signs, maybe_list_passed}
use Rattle.pr_parse.proofs.expressions.+expressions.Goals as goal

pub expr-returns-in_err-test-clause-err : goal.expr-returns-in_err-test-clause-err
expr-returns-in_err-test-clause-err t c = let p = err_from_is_err_and c.from_residual.result c.from_residual.ensures.1 in rw (p.1, p.2) (failed c.in_err-test.field-0.0 c.in_err-test.ensures.err (open_then (open_rule begun)))

pub expr-returns-in_err-test-clause-ok : goal.expr-returns-in_err-test-clause-ok
expr-returns-in_err-test-clause-ok t c = IfOk-from_err _ _ c.from_residual.ensures.0

pub expr-returns-then-not-is-clause-ok : goal.expr-returns-then-not-is-clause-ok
expr-returns-then-not-is-clause-ok t c = absent (by_test (this_symbol Ask) _ c.args.text.now c.in_ok-test.rest.now (c.is.ensures c.args.text.now) c.if-not-is.true) (read c.in_ok-test.ensures.ok (open_then (open_rule begun)))

pub expr-returns-in_err-rest-clause-err : goal.expr-returns-in_err-rest-clause-err
expr-returns-in_err-rest-clause-err t c = let p = err_from_is_err_and c.from_residual-in_err-rest.result c.from_residual-in_err-rest.ensures.1 in rw (p.1, p.2) (not_there c.in_err-rest.field-0.0 (c.in_err-rest.ensures.err c.args.text.now) (open_then (there (by_test (this_symbol Ask) _ c.args.text.now c.in_ok-test.rest.now (c.is.ensures c.args.text.now) c.if-not-is.false) (read c.in_ok-test.ensures.ok (open_then (open_rule begun))))))

pub expr-returns-in_err-rest-clause-ok : goal.expr-returns-in_err-rest-clause-ok
expr-returns-in_err-rest-clause-ok t c = IfOk-from_err _ _ c.from_residual-in_err-rest.ensures.0

pub expr-returns-in_err-yes-clause-err : goal.expr-returns-in_err-yes-clause-err
expr-returns-in_err-yes-clause-err t c = let p = err_from_is_err_and c.from_residual-in_err-yes.result c.from_residual-in_err-yes.ensures.1 in rw (p.1, p.2) (failed c.in_err-yes.field-0.0 c.in_err-yes.ensures.err (open_then (took (c.in_ok-rest.ensures.ok c.args.text.now) refl (open_then (there (by_test (this_symbol Ask) _ c.args.text.now c.in_ok-test.rest.now (c.is.ensures c.args.text.now) c.if-not-is.false) (read c.in_ok-test.ensures.ok (open_then (open_rule begun))))))))

pub expr-returns-in_err-yes-clause-ok : goal.expr-returns-in_err-yes-clause-ok
expr-returns-in_err-yes-clause-ok t c = IfOk-from_err _ _ c.from_residual-in_err-yes.ensures.0

pub expr-returns-in_err-rest-2-clause-err : goal.expr-returns-in_err-rest-2-clause-err
expr-returns-in_err-rest-2-clause-err t c = let p = err_from_is_err_and c.from_residual-in_err-rest-2.result c.from_residual-in_err-rest-2.ensures.1 in rw (p.1, p.2) (not_there c.in_err-rest-2.field-0.0 (c.in_err-rest-2.ensures.err c.args.text.now) (open_then (read c.in_ok-yes.ensures.ok (open_then (took (c.in_ok-rest.ensures.ok c.args.text.now) refl (open_then (there (by_test (this_symbol Ask) _ c.args.text.now c.in_ok-test.rest.now (c.is.ensures c.args.text.now) c.if-not-is.false) (read c.in_ok-test.ensures.ok (open_then (open_rule begun))))))))))

pub expr-returns-in_err-rest-2-clause-ok : goal.expr-returns-in_err-rest-2-clause-ok
expr-returns-in_err-rest-2-clause-ok t c = IfOk-from_err _ _ c.from_residual-in_err-rest-2.ensures.0

pub expr-returns-in_err-no-clause-err : goal.expr-returns-in_err-no-clause-err
expr-returns-in_err-no-clause-err t c = let p = err_from_is_err_and c.from_residual-in_err-no.result c.from_residual-in_err-no.ensures.1 in rw (p.1, p.2) (failed c.in_err-no.field-0.0 c.in_err-no.ensures.err (open_then (took (c.in_ok-rest-2.ensures.ok c.args.text.now) refl (open_then (read c.in_ok-yes.ensures.ok (open_then (took (c.in_ok-rest.ensures.ok c.args.text.now) refl (open_then (there (by_test (this_symbol Ask) _ c.args.text.now c.in_ok-test.rest.now (c.is.ensures c.args.text.now) c.if-not-is.false) (read c.in_ok-test.ensures.ok (open_then (open_rule begun))))))))))))

pub expr-returns-in_err-no-clause-ok : goal.expr-returns-in_err-no-clause-ok
expr-returns-in_err-no-clause-ok t c = IfOk-from_err _ _ c.from_residual-in_err-no.ensures.0

pub expr-returns-clause-ok : goal.expr-returns-clause-ok
expr-returns-clause-ok t c = rw (c.in_ok-whole.ensures.ok, c.in_ok-condition.ensures.ok, c.in_ok-chosen.ensures.ok) (made _ (λ ts. refl) (read c.in_ok-no.ensures.ok (open_then (took (c.in_ok-rest-2.ensures.ok c.args.text.now) refl (open_then (read c.in_ok-yes.ensures.ok (open_then (took (c.in_ok-rest.ensures.ok c.args.text.now) refl (open_then (there (by_test (this_symbol Ask) _ c.args.text.now c.in_ok-test.rest.now (c.is.ensures c.args.text.now) c.if-not-is.false) (read c.in_ok-test.ensures.ok (open_then (open_rule begun)))))))))))))

pub chain-returns-in_err-left-clause-err : goal.chain-returns-in_err-left-clause-err
chain-returns-in_err-left-clause-err t c = let p = err_from_is_err_and c.from_residual.result c.from_residual.ensures.1 in rw (p.1, p.2) (failed c.in_err-left.field-0.0 c.in_err-left.ensures.err (open_then (open_rule begun)))

pub chain-returns-in_err-left-clause-ok : goal.chain-returns-in_err-left-clause-ok
chain-returns-in_err-left-clause-ok t c = IfOk-from_err _ _ c.from_residual.ensures.0

pub chain-loop-op-init : goal.chain-loop-op-init
chain-loop-op-init t c = read c.in_ok-left.ensures.ok (open_then (open_rule begun))

pub chain-returns-in_err-right-clause-err : goal.chain-returns-in_err-right-clause-err
chain-returns-in_err-right-clause-err t c = let p = err_from_is_err_and c.from_residual-in_err-right.result c.from_residual-in_err-right.ensures.1 in rw (p.1, p.2) (failed c.in_err-right.field-0.0 c.in_err-right.ensures.err (operator _ (found_signs _ _ c.operators.ensures _ _ _ _ (c.in-Some.ensures.found c.args.text.now)) c.loop-op.invariant))

pub chain-returns-in_err-right-clause-ok : goal.chain-returns-in_err-right-clause-ok
chain-returns-in_err-right-clause-ok t c = IfOk-from_err _ _ c.from_residual-in_err-right.ensures.0

pub chain-loop-op-preserved : goal.chain-loop-op-preserved
chain-loop-op-preserved t c = rw (c.in_ok-left-2.ensures.ok, c.in_ok-first.ensures.ok) (operated _ (found_signs _ _ c.operators.ensures _ _ _ _ (c.in-Some.ensures.found c.args.text.now)) c.in_ok-right.ensures.ok c.loop-op.invariant)

pub chain-returns-clause-ok : goal.chain-returns-clause-ok
chain-returns-clause-ok t c = no_more (by_none (one_of _) _ c.args.text.now c.loop-op.rest.now (none_signs _ _ c.operators.ensures c.args.text.now c.loop-op.rest.now (c.in_default.ensures.found c.args.text.now))) c.loop-op.invariant

pub comparison-returns-in_err-left-clause-err : goal.comparison-returns-in_err-left-clause-err
comparison-returns-in_err-left-clause-err t c = let p = err_from_is_err_and c.from_residual.result c.from_residual.ensures.1 in rw (p.1, p.2) (failed c.in_err-left.field-0.0 c.in_err-left.ensures.err (open_then (open_rule begun)))

pub comparison-returns-in_err-left-clause-ok : goal.comparison-returns-in_err-left-clause-ok
comparison-returns-in_err-left-clause-ok t c = IfOk-from_err _ _ c.from_residual.ensures.0

pub comparison-returns-in_default-clause-ok : goal.comparison-returns-in_default-clause-ok
comparison-returns-in_default-clause-ok t c = absent (by_none (one_of comparisons) _ c.args.text.now c.in_ok-left.rest.now (c.in_default.ensures.found c.args.text.now)) (read c.in_ok-left.ensures.ok (open_then (open_rule begun)))

pub comparison-returns-in_err-right-clause-err : goal.comparison-returns-in_err-right-clause-err
comparison-returns-in_err-right-clause-err t c = let p = err_from_is_err_and c.from_residual-in_err-right.result c.from_residual-in_err-right.ensures.1 in rw (p.1, p.2) (failed c.in_err-right.field-0.0 c.in_err-right.ensures.err (open_then (took (c.in-Some.ensures.found c.args.text.now).0 (c.in-Some.ensures.found c.args.text.now).1 (open_then (there (by_token (one_of comparisons) _ (c.in-Some.ensures.found c.args.text.now).0 (c.in-Some.ensures.found c.args.text.now).1) (read c.in_ok-left.ensures.ok (open_then (open_rule begun))))))))

pub comparison-returns-in_err-right-clause-ok : goal.comparison-returns-in_err-right-clause-ok
comparison-returns-in_err-right-clause-ok t c = IfOk-from_err _ _ c.from_residual-in_err-right.ensures.0

pub comparison-returns-clause-ok : goal.comparison-returns-clause-ok
comparison-returns-clause-ok t c = rw (c.in_ok-whole.ensures.ok, c.in_ok-first.ensures.ok) (made _ (λ ts. refl) (read c.in_ok-right.ensures.ok (open_then (took (c.in-Some.ensures.found c.args.text.now).0 (c.in-Some.ensures.found c.args.text.now).1 (open_then (there (by_token (one_of comparisons) _ (c.in-Some.ensures.found c.args.text.now).0 (c.in-Some.ensures.found c.args.text.now).1) (read c.in_ok-left.ensures.ok (open_then (open_rule begun)))))))))

pub prefix-returns-then-not-is-clause-ok : goal.prefix-returns-then-not-is-clause-ok
prefix-returns-then-not-is-clause-ok t c = IfOk-weaker _ _ _ (λ x r. read r (second (by_test (this_symbol Tilde) _ c.args.text.now c.args.tokens.now (c.is.ensures c.args.text.now) c.if-not-is.true) (open_rule begun))) c.postfix.ensures.ok

pub prefix-returns-then-not-is-clause-err : goal.prefix-returns-then-not-is-clause-err
prefix-returns-then-not-is-clause-err t c = passed_on c.postfix.result (second (by_test (this_symbol Tilde) _ c.args.text.now c.args.tokens.now (c.is.ensures c.args.text.now) c.if-not-is.true) (open_rule begun)) c.postfix.ensures.err

pub prefix-returns-in_err-rest-clause-err : goal.prefix-returns-in_err-rest-clause-err
prefix-returns-in_err-rest-clause-err t c = let p = err_from_is_err_and c.from_residual.result c.from_residual.ensures.1 in rw (p.1, p.2) (not_there c.in_err-rest.field-0.0 (c.in_err-rest.ensures.err c.args.text.now) (open_then (first (by_test (this_symbol Tilde) _ c.args.text.now c.args.tokens.now (c.is.ensures c.args.text.now) c.if-not-is.false) (open_rule begun))))

pub prefix-returns-in_err-rest-clause-ok : goal.prefix-returns-in_err-rest-clause-ok
prefix-returns-in_err-rest-clause-ok t c = IfOk-from_err _ _ c.from_residual.ensures.0

pub prefix-returns-in_err-inner-clause-err : goal.prefix-returns-in_err-inner-clause-err
prefix-returns-in_err-inner-clause-err t c = let p = err_from_is_err_and c.from_residual-in_err-inner.result c.from_residual-in_err-inner.ensures.1 in rw (p.1, p.2) (failed c.in_err-inner.field-0.0 c.in_err-inner.ensures.err (open_then (took (c.in_ok-rest.ensures.ok c.args.text.now) refl (open_then (first (by_test (this_symbol Tilde) _ c.args.text.now c.args.tokens.now (c.is.ensures c.args.text.now) c.if-not-is.false) (open_rule begun))))))

pub prefix-returns-in_err-inner-clause-ok : goal.prefix-returns-in_err-inner-clause-ok
prefix-returns-in_err-inner-clause-ok t c = IfOk-from_err _ _ c.from_residual-in_err-inner.ensures.0

pub prefix-returns-clause-ok : goal.prefix-returns-clause-ok
prefix-returns-clause-ok t c = rw c.in_ok-whole.ensures.ok (made _ (λ ts. refl) (read c.in_ok-inner.ensures.ok (open_then (took (c.in_ok-rest.ensures.ok c.args.text.now) refl (open_then (first (by_test (this_symbol Tilde) _ c.args.text.now c.args.tokens.now (c.is.ensures c.args.text.now) c.if-not-is.false) (open_rule begun)))))))

pub postfix-returns-in_err-whole-clause-err : goal.postfix-returns-in_err-whole-clause-err
postfix-returns-in_err-whole-clause-err t c = let p = err_from_is_err_and c.from_residual.result c.from_residual.ensures.1 in rw (p.1, p.2) (failed c.in_err-whole.field-0.0 c.in_err-whole.ensures.err (open_then (open_rule begun)))

pub postfix-returns-in_err-whole-clause-ok : goal.postfix-returns-in_err-whole-clause-ok
postfix-returns-in_err-whole-clause-ok t c = IfOk-from_err _ _ c.from_residual.ensures.0

pub postfix-loop-alloc-init : goal.postfix-loop-alloc-init
postfix-loop-alloc-init t c = read c.in_ok-whole.ensures.ok (open_then (open_rule begun))

pub postfix-returns-in_err-inside-clause-err : goal.postfix-returns-in_err-inside-clause-err
postfix-returns-in_err-inside-clause-err t c = let p = err_from_is_err_and c.from_residual-in_err-inside.result c.from_residual-in_err-inside.ensures.1 in rw (p.1, p.2) (not_there c.in_err-inside.field-0.0 (c.in_err-inside.ensures.err c.args.text.now) (open_then (again (by_test (this_symbol OpenCurly) _ c.args.text.now c.loop-alloc.rest.now (c.is.ensures c.args.text.now) c.loop-alloc-test.true) c.loop-alloc.invariant)))

pub postfix-returns-in_err-inside-clause-ok : goal.postfix-returns-in_err-inside-clause-ok
postfix-returns-in_err-inside-clause-ok t c = IfOk-from_err _ _ c.from_residual-in_err-inside.ensures.0

pub postfix-returns-in_err-high-clause-err : goal.postfix-returns-in_err-high-clause-err
postfix-returns-in_err-high-clause-err t c = let p = err_from_is_err_and c.from_residual-in_err-high.result c.from_residual-in_err-high.ensures.1 in rw (p.1, p.2) (failed c.in_err-high.field-0.0 c.in_err-high.ensures.err (open_then (took (c.in_ok-inside.ensures.ok c.args.text.now) refl (open_then (again (by_test (this_symbol OpenCurly) _ c.args.text.now c.loop-alloc.rest.now (c.is.ensures c.args.text.now) c.loop-alloc-test.true) c.loop-alloc.invariant)))))

pub postfix-returns-in_err-high-clause-ok : goal.postfix-returns-in_err-high-clause-ok
postfix-returns-in_err-high-clause-ok t c = IfOk-from_err _ _ c.from_residual-in_err-high.ensures.0

pub postfix-returns-in_err-after-clause-err : goal.postfix-returns-in_err-after-clause-err
postfix-returns-in_err-after-clause-err t c = let p = err_from_is_err_and c.from_residual-in_err-after.result c.from_residual-in_err-after.ensures.1 in rw (p.1, p.2) (not_there c.in_err-after.field-0.0 (c.in_err-after.ensures.err c.args.text.now) (open_then (read c.in_ok-high.ensures.ok (open_then (took (c.in_ok-inside.ensures.ok c.args.text.now) refl (open_then (again (by_test (this_symbol OpenCurly) _ c.args.text.now c.loop-alloc.rest.now (c.is.ensures c.args.text.now) c.loop-alloc-test.true) c.loop-alloc.invariant)))))))

pub postfix-returns-in_err-after-clause-ok : goal.postfix-returns-in_err-after-clause-ok
postfix-returns-in_err-after-clause-ok t c = IfOk-from_err _ _ c.from_residual-in_err-after.ensures.0

pub postfix-returns-in_err-low-clause-err : goal.postfix-returns-in_err-low-clause-err
postfix-returns-in_err-low-clause-err t c = let p = err_from_is_err_and c.from_residual-in_err-low.result c.from_residual-in_err-low.ensures.1 in rw (p.1, p.2) (failed c.in_err-low.field-0.0 c.in_err-low.ensures.err (open_then (took (c.in_ok-after.ensures.ok c.args.text.now) refl (open_then (read c.in_ok-high.ensures.ok (open_then (took (c.in_ok-inside.ensures.ok c.args.text.now) refl (open_then (again (by_test (this_symbol OpenCurly) _ c.args.text.now c.loop-alloc.rest.now (c.is.ensures c.args.text.now) c.loop-alloc-test.true) c.loop-alloc.invariant)))))))))

pub postfix-returns-in_err-low-clause-ok : goal.postfix-returns-in_err-low-clause-ok
postfix-returns-in_err-low-clause-ok t c = IfOk-from_err _ _ c.from_residual-in_err-low.ensures.0

pub postfix-returns-in_err-after-2-clause-err : goal.postfix-returns-in_err-after-2-clause-err
postfix-returns-in_err-after-2-clause-err t c = let p = err_from_is_err_and c.from_residual-in_err-after-2.result c.from_residual-in_err-after-2.ensures.1 in rw (p.1, p.2) (not_there c.in_err-after-2.field-0.0 (c.in_err-after-2.ensures.err c.args.text.now) (open_then (read c.in_ok-low.ensures.ok (open_then (took (c.in_ok-after.ensures.ok c.args.text.now) refl (open_then (read c.in_ok-high.ensures.ok (open_then (took (c.in_ok-inside.ensures.ok c.args.text.now) refl (open_then (again (by_test (this_symbol OpenCurly) _ c.args.text.now c.loop-alloc.rest.now (c.is.ensures c.args.text.now) c.loop-alloc-test.true) c.loop-alloc.invariant)))))))))))

pub postfix-returns-in_err-after-2-clause-ok : goal.postfix-returns-in_err-after-2-clause-ok
postfix-returns-in_err-after-2-clause-ok t c = IfOk-from_err _ _ c.from_residual-in_err-after-2.ensures.0

pub postfix-loop-alloc-preserved : goal.postfix-loop-alloc-preserved
postfix-loop-alloc-preserved t c = rw (c.slice-whole.ensures, c.in_ok-sliced.ensures.ok) (made _ (λ ts. refl) (took (c.in_ok-after-2.ensures.ok c.args.text.now) refl (open_then (read c.in_ok-low.ensures.ok (open_then (took (c.in_ok-after.ensures.ok c.args.text.now) refl (open_then (read c.in_ok-high.ensures.ok (open_then (took (c.in_ok-inside.ensures.ok c.args.text.now) refl (open_then (again (by_test (this_symbol OpenCurly) _ c.args.text.now c.loop-alloc.rest.now (c.is.ensures c.args.text.now) c.loop-alloc-test.true) c.loop-alloc.invariant))))))))))))

pub postfix-returns-clause-ok : goal.postfix-returns-clause-ok
postfix-returns-clause-ok t c = no_more (by_test (this_symbol OpenCurly) _ c.args.text.now c.loop-alloc.rest.now (c.is.ensures c.args.text.now) c.loop-alloc-test.false) c.loop-alloc.invariant

pub primary-returns-in-Ok-clause-ok : goal.primary-returns-in-Ok-clause-ok
primary-returns-in-Ok-clause-ok t c = rw c.number-in-Ok.ensures (took (c.in-Ok.ensures.ok c.args.text.now) refl (first (by_one any_number (c.in-Ok.ensures.ok c.args.text.now) refl) (open_rule begun)))

pub primary-returns-then-is-clause-ok : goal.primary-returns-then-is-clause-ok
primary-returns-then-is-clause-ok t c = IfOk-weaker _ _ _ (λ x r. read r (first (by_test (this_symbol OpenRound) _ c.args.text.now c.args.tokens.now (c.is.ensures c.args.text.now) c.if-is.true) (second (by_none_one any_number c.args.text.now c.args.tokens.now (c.in_default.ensures.err c.args.text.now).other) (open_rule begun)))) c.grouped.ensures.ok

pub primary-returns-then-is-clause-err : goal.primary-returns-then-is-clause-err
primary-returns-then-is-clause-err t c = passed_on c.grouped.result (first (by_test (this_symbol OpenRound) _ c.args.text.now c.args.tokens.now (c.is.ensures c.args.text.now) c.if-is.true) (second (by_none_one any_number c.args.text.now c.args.tokens.now (c.in_default.ensures.err c.args.text.now).other) (open_rule begun))) c.grouped.ensures.err

pub primary-returns-then-is-2-clause-ok : goal.primary-returns-then-is-2-clause-ok
primary-returns-then-is-2-clause-ok t c = IfOk-weaker _ _ _ (λ x r. read r (first (by_test (this_keyword Cat) _ c.args.text.now c.args.tokens.now (c.is-2.ensures c.args.text.now) c.if-is-2.true) (second (by_test (this_symbol OpenRound) _ c.args.text.now c.args.tokens.now (c.is.ensures c.args.text.now) c.if-is.false) (second (by_none_one any_number c.args.text.now c.args.tokens.now (c.in_default.ensures.err c.args.text.now).other) (open_rule begun))))) c.concatenation.ensures.ok

pub primary-returns-then-is-2-clause-err : goal.primary-returns-then-is-2-clause-err
primary-returns-then-is-2-clause-err t c = passed_on c.concatenation.result (first (by_test (this_keyword Cat) _ c.args.text.now c.args.tokens.now (c.is-2.ensures c.args.text.now) c.if-is-2.true) (second (by_test (this_symbol OpenRound) _ c.args.text.now c.args.tokens.now (c.is.ensures c.args.text.now) c.if-is.false) (second (by_none_one any_number c.args.text.now c.args.tokens.now (c.in_default.ensures.err c.args.text.now).other) (open_rule begun)))) c.concatenation.ensures.err

pub grouped-returns-in_err-inside-clause-err : goal.grouped-returns-in_err-inside-clause-err
grouped-returns-in_err-inside-clause-err t c = let p = err_from_is_err_and c.from_residual.result c.from_residual.ensures.1 in rw (p.1, p.2) (not_there c.in_err-inside.field-0.0 (c.in_err-inside.ensures.err c.args.text.now) (open_then begun))

pub grouped-returns-in_err-inside-clause-ok : goal.grouped-returns-in_err-inside-clause-ok
grouped-returns-in_err-inside-clause-ok t c = IfOk-from_err _ _ c.from_residual.ensures.0

pub grouped-returns-in_err-inner-clause-err : goal.grouped-returns-in_err-inner-clause-err
grouped-returns-in_err-inner-clause-err t c = let p = err_from_is_err_and c.from_residual-in_err-inner.result c.from_residual-in_err-inner.ensures.1 in rw (p.1, p.2) (failed c.in_err-inner.field-0.0 c.in_err-inner.ensures.err (open_then (took (c.in_ok-inside.ensures.ok c.args.text.now) refl (open_then begun))))

pub grouped-returns-in_err-inner-clause-ok : goal.grouped-returns-in_err-inner-clause-ok
grouped-returns-in_err-inner-clause-ok t c = IfOk-from_err _ _ c.from_residual-in_err-inner.ensures.0

pub grouped-returns-in_err-rest-clause-err : goal.grouped-returns-in_err-rest-clause-err
grouped-returns-in_err-rest-clause-err t c = let p = err_from_is_err_and c.from_residual-in_err-rest.result c.from_residual-in_err-rest.ensures.1 in rw (p.1, p.2) (not_there c.in_err-rest.field-0.0 (c.in_err-rest.ensures.err c.args.text.now) (open_then (read c.in_ok-inner.ensures.ok (open_then (took (c.in_ok-inside.ensures.ok c.args.text.now) refl (open_then begun))))))

pub grouped-returns-in_err-rest-clause-ok : goal.grouped-returns-in_err-rest-clause-ok
grouped-returns-in_err-rest-clause-ok t c = IfOk-from_err _ _ c.from_residual-in_err-rest.ensures.0

pub grouped-returns-clause-ok : goal.grouped-returns-clause-ok
grouped-returns-clause-ok t c = rw (c.paren.ensures, c.in_ok-held.ensures.ok) (made _ (λ ts. refl) (took (c.in_ok-rest.ensures.ok c.args.text.now) refl (open_then (read c.in_ok-inner.ensures.ok (open_then (took (c.in_ok-inside.ensures.ok c.args.text.now) refl (open_then begun)))))))

pub concatenation-returns-in_err-after-clause-err : goal.concatenation-returns-in_err-after-clause-err
concatenation-returns-in_err-after-clause-err t c = let p = err_from_is_err_and c.from_residual.result c.from_residual.ensures.1 in rw (p.1, p.2) (not_there c.in_err-after.field-0.0 (c.in_err-after.ensures.err c.args.text.now) (open_then begun))

pub concatenation-returns-in_err-after-clause-ok : goal.concatenation-returns-in_err-after-clause-ok
concatenation-returns-in_err-after-clause-ok t c = IfOk-from_err _ _ c.from_residual.ensures.0

pub concatenation-returns-in_err-inside-clause-err : goal.concatenation-returns-in_err-inside-clause-err
concatenation-returns-in_err-inside-clause-err t c = let p = err_from_is_err_and c.from_residual-in_err-inside.result c.from_residual-in_err-inside.ensures.1 in rw (p.1, p.2) (not_there c.in_err-inside.field-0.0 (c.in_err-inside.ensures.err c.args.text.now) (open_then (took (c.in_ok-after.ensures.ok c.args.text.now) refl (open_then begun))))

pub concatenation-returns-in_err-inside-clause-ok : goal.concatenation-returns-in_err-inside-clause-ok
concatenation-returns-in_err-inside-clause-ok t c = IfOk-from_err _ _ c.from_residual-in_err-inside.ensures.0

pub concatenation-returns-in_err-parts-clause-err : goal.concatenation-returns-in_err-parts-clause-err
concatenation-returns-in_err-parts-clause-err t c = let p = err_from_is_err_and c.from_residual-in_err-parts.result c.from_residual-in_err-parts.ensures.1 in rw (p.1, p.2) (failed c.in_err-parts.field-0.0 c.in_err-parts.ensures.err (open_then (took (c.in_ok-inside.ensures.ok c.args.text.now) refl (open_then (took (c.in_ok-after.ensures.ok c.args.text.now) refl (open_then begun))))))

pub concatenation-returns-in_err-parts-clause-ok : goal.concatenation-returns-in_err-parts-clause-ok
concatenation-returns-in_err-parts-clause-ok t c = IfOk-from_err _ _ c.from_residual-in_err-parts.ensures.0

pub concatenation-returns-in_err-rest-clause-err : goal.concatenation-returns-in_err-rest-clause-err
concatenation-returns-in_err-rest-clause-err t c = let p = err_from_is_err_and c.from_residual-in_err-rest.result c.from_residual-in_err-rest.ensures.1 in rw (p.1, p.2) (not_there c.in_err-rest.field-0.0 (c.in_err-rest.ensures.err c.args.text.now) (open_then (read c.in_ok-parts.ensures.ok (open_then (took (c.in_ok-inside.ensures.ok c.args.text.now) refl (open_then (took (c.in_ok-after.ensures.ok c.args.text.now) refl (open_then begun))))))))

pub concatenation-returns-in_err-rest-clause-ok : goal.concatenation-returns-in_err-rest-clause-ok
concatenation-returns-in_err-rest-clause-ok t c = IfOk-from_err _ _ c.from_residual-in_err-rest.ensures.0

pub concatenation-returns-clause-ok : goal.concatenation-returns-clause-ok
concatenation-returns-clause-ok t c = rw c.cat.ensures (made _ (λ ts. refl) (took (c.in_ok-rest.ensures.ok c.args.text.now) refl (open_then (read c.in_ok-parts.ensures.ok (open_then (took (c.in_ok-inside.ensures.ok c.args.text.now) refl (open_then (took (c.in_ok-after.ensures.ok c.args.text.now) refl (open_then begun)))))))))

pub primary-returns-clause-ok : goal.primary-returns-clause-ok
primary-returns-clause-ok t c = IfOk-weaker _ _ _ (λ x r. read r (second (by_test (this_keyword Cat) _ c.args.text.now c.args.tokens.now (c.is-2.ensures c.args.text.now) c.if-is-2.false) (second (by_test (this_symbol OpenRound) _ c.args.text.now c.args.tokens.now (c.is.ensures c.args.text.now) c.if-is.false) (second (by_none_one any_number c.args.text.now c.args.tokens.now (c.in_default.ensures.err c.args.text.now).other) (open_rule begun))))) c.named.ensures.ok

pub primary-returns-clause-err : goal.primary-returns-clause-err
primary-returns-clause-err t c = passed_on c.named.result (second (by_test (this_keyword Cat) _ c.args.text.now c.args.tokens.now (c.is-2.ensures c.args.text.now) c.if-is-2.false) (second (by_test (this_symbol OpenRound) _ c.args.text.now c.args.tokens.now (c.is.ensures c.args.text.now) c.if-is.false) (second (by_none_one any_number c.args.text.now c.args.tokens.now (c.in_default.ensures.err c.args.text.now).other) (open_rule begun)))) c.named.ensures.err

pub named-returns-in_err-bytes-clause-err : goal.named-returns-in_err-bytes-clause-err
named-returns-in_err-bytes-clause-err t c = let p = err_from_is_err_and c.from_residual.result c.from_residual.ensures.1 in rw (p.1, p.2) (not_there c.in_err-bytes.field-0.0 c.in_err-bytes.ensures.err (open_then begun))

pub named-returns-in_err-bytes-clause-ok : goal.named-returns-in_err-bytes-clause-ok
named-returns-in_err-bytes-clause-ok t c = IfOk-from_err _ _ c.from_residual.ensures.0

pub named-returns-in_err-inside-clause-err : goal.named-returns-in_err-inside-clause-err
named-returns-in_err-inside-clause-err t c = let p = err_from_is_err_and c.from_residual-in_err-inside.result c.from_residual-in_err-inside.ensures.1 in rw (p.1, p.2) (not_there c.in_err-inside.field-0.0 (c.in_err-inside.ensures.err c.args.text.now) (open_then (first (by_test (this_symbol OpenRound) _ c.args.text.now c.in_ok-bytes.tail.now (c.is.ensures c.args.text.now) c.if-is.true) (took c.in_ok-bytes.ensures.ok refl (open_then begun)))))

pub named-returns-in_err-inside-clause-ok : goal.named-returns-in_err-inside-clause-ok
named-returns-in_err-inside-clause-ok t c = IfOk-from_err _ _ c.from_residual-in_err-inside.ensures.0

pub named-returns-in_err-list-clause-err : goal.named-returns-in_err-list-clause-err
named-returns-in_err-list-clause-err t c = let p = err_from_is_err_and c.from_residual-in_err-list.result c.from_residual-in_err-list.ensures.1 in rw (p.1, p.2) (failed c.in_err-list.field-0.0 c.in_err-list.ensures.err (open_then (took (c.in_ok-inside.ensures.ok c.args.text.now) refl (open_then (first (by_test (this_symbol OpenRound) _ c.args.text.now c.in_ok-bytes.tail.now (c.is.ensures c.args.text.now) c.if-is.true) (took c.in_ok-bytes.ensures.ok refl (open_then begun)))))))

pub named-returns-in_err-list-clause-ok : goal.named-returns-in_err-list-clause-ok
named-returns-in_err-list-clause-ok t c = IfOk-from_err _ _ c.from_residual-in_err-list.ensures.0

pub named-returns-in_err-rest-clause-err : goal.named-returns-in_err-rest-clause-err
named-returns-in_err-rest-clause-err t c = let p = err_from_is_err_and c.from_residual-in_err-rest.result c.from_residual-in_err-rest.ensures.1 in rw (p.1, p.2) (not_there c.in_err-rest.field-0.0 (c.in_err-rest.ensures.err c.args.text.now) (open_then (read c.in_ok-list.ensures.ok (open_then (took (c.in_ok-inside.ensures.ok c.args.text.now) refl (open_then (first (by_test (this_symbol OpenRound) _ c.args.text.now c.in_ok-bytes.tail.now (c.is.ensures c.args.text.now) c.if-is.true) (took c.in_ok-bytes.ensures.ok refl (open_then begun)))))))))

pub named-returns-in_err-rest-clause-ok : goal.named-returns-in_err-rest-clause-ok
named-returns-in_err-rest-clause-ok t c = IfOk-from_err _ _ c.from_residual-in_err-rest.ensures.0

pub named-returns-then-is-clause-ok : goal.named-returns-then-is-clause-ok
named-returns-then-is-clause-ok t c = rw (c.call.ensures, c.in_ok-name.ensures.ok) (made _ (λ ts. refl) (took (c.in_ok-rest.ensures.ok c.args.text.now) refl (open_then (read c.in_ok-list.ensures.ok (open_then (took (c.in_ok-inside.ensures.ok c.args.text.now) refl (open_then (first (by_test (this_symbol OpenRound) _ c.args.text.now c.in_ok-bytes.tail.now (c.is.ensures c.args.text.now) c.if-is.true) (took c.in_ok-bytes.ensures.ok refl (open_then begun))))))))))

pub named-returns-in_err-index-clause-err : goal.named-returns-in_err-index-clause-err
named-returns-in_err-index-clause-err t c = let p = err_from_is_err_and c.from_residual-in_err-index.result c.from_residual-in_err-index.ensures.1 in rw (p.1, p.2) (failed c.in_err-index.field-0.0 c.in_err-index.ensures.err (open_then (second (by_test (this_symbol OpenRound) _ c.args.text.now c.in_ok-bytes.tail.now (c.is.ensures c.args.text.now) c.if-is.false) (took c.in_ok-bytes.ensures.ok refl (open_then begun)))))

pub named-returns-in_err-index-clause-ok : goal.named-returns-in_err-index-clause-ok
named-returns-in_err-index-clause-ok t c = IfOk-from_err _ _ c.from_residual-in_err-index.ensures.0

pub named-returns-then-not-is-clause-ok : goal.named-returns-then-not-is-clause-ok
named-returns-then-not-is-clause-ok t c = rw (c.refer.ensures, c.in_ok-name.ensures.ok) (absent (by_test (this_symbol At) _ c.args.text.now c.in_ok-index.rest.now (c.is-2.ensures c.args.text.now) c.if-not-is.true) (made (tree.refer (name_tree c.in_ok-bytes.bytes.now) (index_shape c.in_ok-index.index) ∷ []) (λ ts. refl) (open_then (read c.in_ok-index.ensures.ok (open_then (second (by_test (this_symbol OpenRound) _ c.args.text.now c.in_ok-bytes.tail.now (c.is.ensures c.args.text.now) c.if-is.false) (took c.in_ok-bytes.ensures.ok refl (open_then begun))))))))

pub named-returns-in_err-after-clause-err : goal.named-returns-in_err-after-clause-err
named-returns-in_err-after-clause-err t c = let p = err_from_is_err_and c.from_residual-in_err-after.result c.from_residual-in_err-after.ensures.1 in rw (p.1, p.2) (not_there c.in_err-after.field-0.0 (c.in_err-after.ensures.err c.args.text.now) (open_then (there (by_test (this_symbol At) _ c.args.text.now c.in_ok-index.rest.now (c.is-2.ensures c.args.text.now) c.if-not-is.false) (made (tree.refer (name_tree c.in_ok-bytes.bytes.now) (index_shape c.in_ok-index.index) ∷ []) (λ ts. refl) (open_then (read c.in_ok-index.ensures.ok (open_then (second (by_test (this_symbol OpenRound) _ c.args.text.now c.in_ok-bytes.tail.now (c.is.ensures c.args.text.now) c.if-is.false) (took c.in_ok-bytes.ensures.ok refl (open_then begun))))))))))

pub named-returns-in_err-after-clause-ok : goal.named-returns-in_err-after-clause-ok
named-returns-in_err-after-clause-ok t c = IfOk-from_err _ _ c.from_residual-in_err-after.ensures.0

pub named-returns-in_err-delay-clause-err : goal.named-returns-in_err-delay-clause-err
named-returns-in_err-delay-clause-err t c = let p = err_from_is_err_and c.from_residual-in_err-delay.result c.from_residual-in_err-delay.ensures.1 in rw (p.1, p.2) (failed c.in_err-delay.field-0.0 c.in_err-delay.ensures.err (open_then (took (c.in_ok-after.ensures.ok c.args.text.now) refl (open_then (there (by_test (this_symbol At) _ c.args.text.now c.in_ok-index.rest.now (c.is-2.ensures c.args.text.now) c.if-not-is.false) (made (tree.refer (name_tree c.in_ok-bytes.bytes.now) (index_shape c.in_ok-index.index) ∷ []) (λ ts. refl) (open_then (read c.in_ok-index.ensures.ok (open_then (second (by_test (this_symbol OpenRound) _ c.args.text.now c.in_ok-bytes.tail.now (c.is.ensures c.args.text.now) c.if-is.false) (took c.in_ok-bytes.ensures.ok refl (open_then begun))))))))))))

pub named-returns-in_err-delay-clause-ok : goal.named-returns-in_err-delay-clause-ok
named-returns-in_err-delay-clause-ok t c = IfOk-from_err _ _ c.from_residual-in_err-delay.ensures.0

pub named-returns-clause-ok : goal.named-returns-clause-ok
named-returns-clause-ok t c = rw (c.delay.ensures, c.in_ok-name.ensures.ok) (made _ (λ ts. refl) (read c.in_ok-delay.ensures.ok (open_then (took (c.in_ok-after.ensures.ok c.args.text.now) refl (open_then (there (by_test (this_symbol At) _ c.args.text.now c.in_ok-index.rest.now (c.is-2.ensures c.args.text.now) c.if-not-is.false) (made (tree.refer (name_tree c.in_ok-bytes.bytes.now) (index_shape c.in_ok-index.index) ∷ []) (λ ts. refl) (open_then (read c.in_ok-index.ensures.ok (open_then (second (by_test (this_symbol OpenRound) _ c.args.text.now c.in_ok-bytes.tail.now (c.is.ensures c.args.text.now) c.if-is.false) (took c.in_ok-bytes.ensures.ok refl (open_then begun)))))))))))))

pub arguments-returns-then-not-begins_expr-clause-ok : goal.arguments-returns-then-not-begins_expr-clause-ok
arguments-returns-then-not-begins_expr-clause-ok t c = rw c.new.ensures.items (absent (begins_then_expr _ c.args.text.now c.args.tokens.now ∙ ap starts_expr (sym c.next_kind.ensures) ∙ sym c.begins_expr.ensures ∙ c.if-not-begins_expr.true) (made (tree.none ∷ []) (λ ts. refl) (open_then (open_rule begun))))

pub arguments-returns-clause-ok : goal.arguments-returns-clause-ok
arguments-returns-clause-ok t c = IfOk-weaker _ _ _ (λ x r. maybe_list (begins_then_expr _ c.args.text.now c.args.tokens.now ∙ ap starts_expr (sym c.next_kind.ensures) ∙ sym c.begins_expr.ensures ∙ c.if-not-begins_expr.false) r) c.exprs.ensures.ok

pub arguments-returns-clause-err : goal.arguments-returns-clause-err
arguments-returns-clause-err t c = maybe_list_passed Exprs c.args.text.now c.args.tokens.now c.exprs.result (begins_then_expr _ c.args.text.now c.args.tokens.now ∙ ap starts_expr (sym c.next_kind.ensures) ∙ sym c.begins_expr.ensures ∙ c.if-not-begins_expr.false) c.exprs.ensures.err

pub exprs-returns-in_err-first-clause-err : goal.exprs-returns-in_err-first-clause-err
exprs-returns-in_err-first-clause-err t c = let p = err_from_is_err_and c.from_residual.result c.from_residual.ensures.1 in rw (p.1, p.2) (failed c.in_err-first.field-0.0 c.in_err-first.ensures.err (open_then (made (tree.none ∷ []) (λ ts. refl) (open_then (open_rule begun)))))

pub exprs-returns-in_err-first-clause-ok : goal.exprs-returns-in_err-first-clause-ok
exprs-returns-in_err-first-clause-ok t c = IfOk-from_err _ _ c.from_residual.ensures.0

pub exprs-loop-alloc-init : goal.exprs-loop-alloc-init
exprs-loop-alloc-init t c = record { some = c.in_ok-list.ensures.some; reads = rw c.in_ok-list.ensures.ok (made _ (λ ts. refl) (open_then (read c.in_ok-first.ensures.ok (open_then (made (tree.none ∷ []) (λ ts. refl) (open_then (open_rule begun))))))) }

pub exprs-returns-in_err-after-clause-err : goal.exprs-returns-in_err-after-clause-err
exprs-returns-in_err-after-clause-err t c = let p = err_from_is_err_and c.from_residual-in_err-after.result c.from_residual-in_err-after.ensures.1 in rw (p.1, p.2) (not_there c.in_err-after.field-0.0 (c.in_err-after.ensures.err c.args.text.now) (open_then (again (by_test (this_symbol Comma) _ c.args.text.now c.loop-alloc.rest.now (c.is.ensures c.args.text.now) c.loop-alloc-test.true) c.loop-alloc.invariant.reads)))

pub exprs-returns-in_err-after-clause-ok : goal.exprs-returns-in_err-after-clause-ok
exprs-returns-in_err-after-clause-ok t c = IfOk-from_err _ _ c.from_residual-in_err-after.ensures.0

pub exprs-returns-in_err-next-clause-err : goal.exprs-returns-in_err-next-clause-err
exprs-returns-in_err-next-clause-err t c = let p = err_from_is_err_and c.from_residual-in_err-next.result c.from_residual-in_err-next.ensures.1 in rw (p.1, p.2) (failed c.in_err-next.field-0.0 c.in_err-next.ensures.err (open_then (took (c.in_ok-after.ensures.ok c.args.text.now) refl (open_then (again (by_test (this_symbol Comma) _ c.args.text.now c.loop-alloc.rest.now (c.is.ensures c.args.text.now) c.loop-alloc-test.true) c.loop-alloc.invariant.reads)))))

pub exprs-returns-in_err-next-clause-ok : goal.exprs-returns-in_err-next-clause-ok
exprs-returns-in_err-next-clause-ok t c = IfOk-from_err _ _ c.from_residual-in_err-next.ensures.0

pub exprs-loop-alloc-preserved : goal.exprs-loop-alloc-preserved
exprs-loop-alloc-preserved t c = record { some = c.in_ok-list-2.ensures.some; reads = rw c.in_ok-list-2.ensures.ok (made _ (λ ts. refl) (read c.in_ok-next.ensures.ok (open_then (took (c.in_ok-after.ensures.ok c.args.text.now) refl (open_then (again (by_test (this_symbol Comma) _ c.args.text.now c.loop-alloc.rest.now (c.is.ensures c.args.text.now) c.loop-alloc-test.true) c.loop-alloc.invariant.reads)))))) }

pub exprs-returns-clause-ok : goal.exprs-returns-clause-ok
exprs-returns-clause-ok t c = no_more (by_test (this_symbol Comma) _ c.args.text.now c.loop-alloc.rest.now (c.is.ensures c.args.text.now) c.loop-alloc-test.false) c.loop-alloc.invariant.reads
