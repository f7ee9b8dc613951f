use Rattle.std.proofs.Common.{refl}
use Rattle.std.proofs.lemmas.Result.{IfOk-from_err, err_from_is_err_and}
use Rattle.pr_parse.proofs.Steps.{begun, open_rule, open_then, made, took, not_there, read, failed}
use Rattle.pr_parse.proofs.items.program.Goals as goal

pub returns-in_err-items-clause-err : goal.returns-in_err-items-clause-err
returns-in_err-items-clause-err c = let p = err_from_is_err_and c.from_residual.result c.from_residual.ensures.1 in rw (p.1, p.2) (failed c.in_err-items.field-0.0 c.in_err-items.ensures.err (open_then (open_rule begun)))

pub returns-in_err-items-clause-ok : goal.returns-in_err-items-clause-ok
returns-in_err-items-clause-ok c = IfOk-from_err _ _ c.from_residual.ensures.0

pub returns-in_err-rest-clause-err : goal.returns-in_err-rest-clause-err
returns-in_err-rest-clause-err c = let p = err_from_is_err_and c.from_residual-in_err-rest.result c.from_residual-in_err-rest.ensures.1 in rw (p.1, p.2) (not_there c.in_err-rest.field-0.0 (c.in_err-rest.ensures.err c.args.text.now) (open_then (read c.in_ok-items.ensures.ok (open_then (open_rule begun)))))

pub returns-in_err-rest-clause-ok : goal.returns-in_err-rest-clause-ok
returns-in_err-rest-clause-ok c = IfOk-from_err _ _ c.from_residual-in_err-rest.ensures.0

pub returns-clause-ok : goal.returns-clause-ok
returns-clause-ok c = made _ (λ ts. refl) (took (c.in_ok-rest.ensures.ok c.args.text.now) refl (open_then (read c.in_ok-items.ensures.ok (open_then (open_rule begun)))))
