use Rattle.std.proofs.Common.{arith}
use Rattle.std.proofs.lemmas.Result.{IfOk-from_err, err_from_is_err_and}
use Rattle.pr_parse.proofs.Endings.{stops, built_whole, stopped_whole}
use Rattle.pr_parse.proofs.parser.whole.Goals as goal

pub returns-in_err-program-clause-err : goal.returns-in_err-program-clause-err
returns-in_err-program-clause-err c = let p = err_from_is_err_and c.from_residual.result c.from_residual.ensures.1 in rw (p.1, p.2) (stops c.args.text.now c.args.tokens.now c.in_err-program.field-0.0 c.in_err-program.ensures.err)

pub returns-in_err-program-clause-ok : goal.returns-in_err-program-clause-ok
returns-in_err-program-clause-ok c = IfOk-from_err _ _ c.from_residual.ensures.0

pub returns-then-left-gt0-clause-err : goal.returns-then-left-gt0-clause-err
returns-then-left-gt0-clause-err c = stopped_whole c.args.text.now c.args.tokens.now c.in_ok-program.rest.now _ _ (omega arith) (omega arith) c.in_ok-program.ensures.ok

pub returns-clause-ok : goal.returns-clause-ok
returns-clause-ok c = built_whole c.args.text.now c.args.tokens.now c.in_ok-program.rest.now _ (omega arith) c.in_ok-program.ensures.ok
