use Rattle.std.proofs.Common.{◌∙◌, get_or, refl, sym, arith, rules}
use Rattle.std.proofs.lemmas.Result.{IfOk-from_err}
use Rattle.pr_expand.specs.Code.{shapes_in, streams_in}
use Rattle.pr_expand.proofs.Arguments.{arguments_end}
use Rattle.pr_expand.proofs.Limits.{argument_within, passed_on}
use Rattle.pr_expand.proofs.expressions.with_arguments.Goals as goal

pub returns-clause-value : goal.returns-clause-value
returns-clause-value c = sym (arguments_end c.loop-i.i c.args.params.now c.args.all.given.items (record { streams = streams_in c.loop-i.env; equations = shapes_in c.loop-i.ledger }) (omega (arith, c.loop-i-test.false, c.min-count.ensures))) ∙ c.loop-i.invariant

pub returns-in_err-made-clause-limit : goal.returns-in_err-made-clause-limit
returns-in_err-made-clause-limit c =
    passed_on c.from_residual.result c.in_err-made.field-0.0 _ _ c.from_residual.ensures.1
    (argument_within c.loop-i.i c.args.params.now c.args.all.given.items (record { streams = streams_in c.loop-i.env; equations = shapes_in c.loop-i.ledger }) _ (get_or c.args.params.now c.loop-i.i c.index-params-i.result) c.index-params-i.result c.index.result.now c.index.result.now (omega (arith, c.loop-i-test.true, c.min-count.ensures)) (omega (arith, c.loop-i-test.true, c.min-count.ensures)) refl (search rules) c.loop-i.invariant)
    c.in_err-made.ensures.limit

pub returns-in_err-made-clause-value : goal.returns-in_err-made-clause-value
returns-in_err-made-clause-value c = IfOk-from_err _ _ c.from_residual.ensures.0

pub returns-in_err-set-clause-value : goal.returns-in_err-set-clause-value
returns-in_err-set-clause-value c = IfOk-from_err _ _ c.from_residual-in_err-set.ensures.0
