use Rattle.std.proofs.Common.{[], ◌∷◌, refl}
use Rattle.std.proofs.lemmas.Result.{IfOk-from_err, err_from_is_err_and}
use Rattle.pr_lang.specs.declared.tokens.Symbol.TheVariants.{Comma}
use Rattle.pr_lang.specs.Word.{this_symbol}
use Rattle.pr_lang.specs.Tree as tree
use Rattle.pr_parse.proofs.Steps.{begun, open_rule, open_then, again, no_more, made, took, not_there, read, failed, by_test}
use Rattle.pr_parse.proofs.items.some_params.Goals as goal

pub returns-in_err-first-clause-err : goal.returns-in_err-first-clause-err
returns-in_err-first-clause-err c = let p = err_from_is_err_and c.from_residual.result c.from_residual.ensures.1 in rw (p.1, p.2) (failed c.in_err-first.field-0.0 c.in_err-first.ensures.err (open_then (made (tree.none ∷ []) (λ ts. refl) (open_then (open_rule begun)))))

pub returns-in_err-first-clause-ok : goal.returns-in_err-first-clause-ok
returns-in_err-first-clause-ok c = IfOk-from_err _ _ c.from_residual.ensures.0

pub loop-alloc-init : goal.loop-alloc-init
loop-alloc-init c = record { some = c.in_ok-list.ensures.some; reads = rw c.in_ok-list.ensures.ok (made _ (λ ts. refl) (open_then (read c.in_ok-first.ensures.ok (open_then (made (tree.none ∷ []) (λ ts. refl) (open_then (open_rule begun))))))) }

pub returns-in_err-after-clause-err : goal.returns-in_err-after-clause-err
returns-in_err-after-clause-err c = let p = err_from_is_err_and c.from_residual-in_err-after.result c.from_residual-in_err-after.ensures.1 in rw (p.1, p.2) (not_there c.in_err-after.field-0.0 (c.in_err-after.ensures.err c.args.text.now) (open_then (again (by_test (this_symbol Comma) _ c.args.text.now c.loop-alloc.rest.now (c.is.ensures c.args.text.now) c.loop-alloc-test.true) c.loop-alloc.invariant.reads)))

pub returns-in_err-after-clause-ok : goal.returns-in_err-after-clause-ok
returns-in_err-after-clause-ok c = IfOk-from_err _ _ c.from_residual-in_err-after.ensures.0

pub returns-in_err-next-clause-err : goal.returns-in_err-next-clause-err
returns-in_err-next-clause-err c = let p = err_from_is_err_and c.from_residual-in_err-next.result c.from_residual-in_err-next.ensures.1 in rw (p.1, p.2) (failed c.in_err-next.field-0.0 c.in_err-next.ensures.err (open_then (took (c.in_ok-after.ensures.ok c.args.text.now) refl (open_then (again (by_test (this_symbol Comma) _ c.args.text.now c.loop-alloc.rest.now (c.is.ensures c.args.text.now) c.loop-alloc-test.true) c.loop-alloc.invariant.reads)))))

pub returns-in_err-next-clause-ok : goal.returns-in_err-next-clause-ok
returns-in_err-next-clause-ok c = IfOk-from_err _ _ c.from_residual-in_err-next.ensures.0

pub loop-alloc-preserved : goal.loop-alloc-preserved
loop-alloc-preserved c = record { some = c.in_ok-list-2.ensures.some; reads = rw c.in_ok-list-2.ensures.ok (made _ (λ ts. refl) (read c.in_ok-next.ensures.ok (open_then (took (c.in_ok-after.ensures.ok c.args.text.now) refl (open_then (again (by_test (this_symbol Comma) _ c.args.text.now c.loop-alloc.rest.now (c.is.ensures c.args.text.now) c.loop-alloc-test.true) c.loop-alloc.invariant.reads)))))) }

pub returns-clause-ok : goal.returns-clause-ok
returns-clause-ok c = no_more (by_test (this_symbol Comma) _ c.args.text.now c.loop-alloc.rest.now (c.is.ensures c.args.text.now) c.loop-alloc-test.false) c.loop-alloc.invariant.reads
