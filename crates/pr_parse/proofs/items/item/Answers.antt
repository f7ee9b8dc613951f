use Rattle.std.proofs.lemmas.Result.{IfOk-from_err, err_from_is_err_and, IfOk-weaker}
use Rattle.pr_lang.specs.declared.tokens.Keyword.TheVariants.{Input, Output, Const, Fn}
use Rattle.pr_lang.specs.Word.{this_keyword}
use Rattle.pr_parse.proofs.Steps.{begun, open_rule, first, second, read, failed, passed_on, by_test}
use Rattle.pr_parse.proofs.items.item.Goals as goal

pub returns-then-is-clause-ok : goal.returns-then-is-clause-ok
returns-then-is-clause-ok c = IfOk-weaker _ _ _ (λ x r. read r (first (by_test (this_keyword Input) _ c.args.text.now c.args.tokens.now (c.is.ensures c.args.text.now) c.if-is.true) (open_rule begun))) c.input.ensures.ok

pub returns-then-is-clause-err : goal.returns-then-is-clause-err
returns-then-is-clause-err c = passed_on c.input.result (first (by_test (this_keyword Input) _ c.args.text.now c.args.tokens.now (c.is.ensures c.args.text.now) c.if-is.true) (open_rule begun)) c.input.ensures.err

pub returns-then-is-2-clause-ok : goal.returns-then-is-2-clause-ok
returns-then-is-2-clause-ok c = IfOk-weaker _ _ _ (λ x r. read r (first (by_test (this_keyword Output) _ c.args.text.now c.args.tokens.now (c.is-2.ensures c.args.text.now) c.if-is-2.true) (second (by_test (this_keyword Input) _ c.args.text.now c.args.tokens.now (c.is.ensures c.args.text.now) c.if-is.false) (open_rule begun)))) c.output.ensures.ok

pub returns-then-is-2-clause-err : goal.returns-then-is-2-clause-err
returns-then-is-2-clause-err c = passed_on c.output.result (first (by_test (this_keyword Output) _ c.args.text.now c.args.tokens.now (c.is-2.ensures c.args.text.now) c.if-is-2.true) (second (by_test (this_keyword Input) _ c.args.text.now c.args.tokens.now (c.is.ensures c.args.text.now) c.if-is.false) (open_rule begun))) c.output.ensures.err

pub returns-then-is-3-clause-ok : goal.returns-then-is-3-clause-ok
returns-then-is-3-clause-ok c = IfOk-weaker _ _ _ (λ x r. read r (first (by_test (this_keyword Const) _ c.args.text.now c.args.tokens.now (c.is-3.ensures c.args.text.now) c.if-is-3.true) (second (by_test (this_keyword Output) _ c.args.text.now c.args.tokens.now (c.is-2.ensures c.args.text.now) c.if-is-2.false) (second (by_test (this_keyword Input) _ c.args.text.now c.args.tokens.now (c.is.ensures c.args.text.now) c.if-is.false) (open_rule begun))))) c.constant.ensures.ok

pub returns-then-is-3-clause-err : goal.returns-then-is-3-clause-err
returns-then-is-3-clause-err c = passed_on c.constant.result (first (by_test (this_keyword Const) _ c.args.text.now c.args.tokens.now (c.is-3.ensures c.args.text.now) c.if-is-3.true) (second (by_test (this_keyword Output) _ c.args.text.now c.args.tokens.now (c.is-2.ensures c.args.text.now) c.if-is-2.false) (second (by_test (this_keyword Input) _ c.args.text.now c.args.tokens.now (c.is.ensures c.args.text.now) c.if-is.false) (open_rule begun)))) c.constant.ensures.err

pub returns-then-is-4-clause-ok : goal.returns-then-is-4-clause-ok
returns-then-is-4-clause-ok c = IfOk-weaker _ _ _ (λ x r. read r (first (by_test (this_keyword Fn) _ c.args.text.now c.args.tokens.now (c.is-4.ensures c.args.text.now) c.if-is-4.true) (second (by_test (this_keyword Const) _ c.args.text.now c.args.tokens.now (c.is-3.ensures c.args.text.now) c.if-is-3.false) (second (by_test (this_keyword Output) _ c.args.text.now c.args.tokens.now (c.is-2.ensures c.args.text.now) c.if-is-2.false) (second (by_test (this_keyword Input) _ c.args.text.now c.args.tokens.now (c.is.ensures c.args.text.now) c.if-is.false) (open_rule begun)))))) c.function.ensures.ok

pub returns-then-is-4-clause-err : goal.returns-then-is-4-clause-err
returns-then-is-4-clause-err c = passed_on c.function.result (first (by_test (this_keyword Fn) _ c.args.text.now c.args.tokens.now (c.is-4.ensures c.args.text.now) c.if-is-4.true) (second (by_test (this_keyword Const) _ c.args.text.now c.args.tokens.now (c.is-3.ensures c.args.text.now) c.if-is-3.false) (second (by_test (this_keyword Output) _ c.args.text.now c.args.tokens.now (c.is-2.ensures c.args.text.now) c.if-is-2.false) (second (by_test (this_keyword Input) _ c.args.text.now c.args.tokens.now (c.is.ensures c.args.text.now) c.if-is.false) (open_rule begun))))) c.function.ensures.err

pub returns-in_err-step-clause-err : goal.returns-in_err-step-clause-err
returns-in_err-step-clause-err c = let p = err_from_is_err_and c.from_residual.result c.from_residual.ensures.1 in rw (p.1, p.2) (failed c.in_err-step.field-0.0 c.in_err-step.ensures.err (second (by_test (this_keyword Fn) _ c.args.text.now c.args.tokens.now (c.is-4.ensures c.args.text.now) c.if-is-4.false) (second (by_test (this_keyword Const) _ c.args.text.now c.args.tokens.now (c.is-3.ensures c.args.text.now) c.if-is-3.false) (second (by_test (this_keyword Output) _ c.args.text.now c.args.tokens.now (c.is-2.ensures c.args.text.now) c.if-is-2.false) (second (by_test (this_keyword Input) _ c.args.text.now c.args.tokens.now (c.is.ensures c.args.text.now) c.if-is.false) (open_rule begun))))))

pub returns-in_err-step-clause-ok : goal.returns-in_err-step-clause-ok
returns-in_err-step-clause-ok c = IfOk-from_err _ _ c.from_residual.ensures.0

pub returns-in_err-step-clause-shorter : goal.returns-in_err-step-clause-shorter
returns-in_err-step-clause-shorter c = IfOk-from_err _ _ c.from_residual.ensures.0

pub returns-clause-ok : goal.returns-clause-ok
returns-clause-ok c = read c.in_ok-step.ensures.ok (second (by_test (this_keyword Fn) _ c.args.text.now c.args.tokens.now (c.is-4.ensures c.args.text.now) c.if-is-4.false) (second (by_test (this_keyword Const) _ c.args.text.now c.args.tokens.now (c.is-3.ensures c.args.text.now) c.if-is-3.false) (second (by_test (this_keyword Output) _ c.args.text.now c.args.tokens.now (c.is-2.ensures c.args.text.now) c.if-is-2.false) (second (by_test (this_keyword Input) _ c.args.text.now c.args.tokens.now (c.is.ensures c.args.text.now) c.if-is.false) (open_rule begun)))))
