use Rattle.std.proofs.Common.{refl}
use Rattle.std.proofs.lemmas.Result.{IfOk-from_err, err_from_is_err_and}
use Rattle.pr_parse.proofs.Steps.{begun, open_rule, open_then, made, took, not_there, read, failed}
use Rattle.pr_parse.proofs.fixed.target.Goals as goal

pub returns-in_err-bytes-clause-err : goal.returns-in_err-bytes-clause-err
returns-in_err-bytes-clause-err c = let p = err_from_is_err_and c.from_residual.result c.from_residual.ensures.1 in rw (p.1, p.2) (not_there c.in_err-bytes.field-0.0 c.in_err-bytes.ensures.err (open_then (open_rule begun)))

pub returns-in_err-bytes-clause-ok : goal.returns-in_err-bytes-clause-ok
returns-in_err-bytes-clause-ok c = IfOk-from_err _ _ c.from_residual.ensures.0

pub returns-in_err-index-clause-err : goal.returns-in_err-index-clause-err
returns-in_err-index-clause-err c = let p = err_from_is_err_and c.from_residual-in_err-index.result c.from_residual-in_err-index.ensures.1 in rw (p.1, p.2) (failed c.in_err-index.field-0.0 c.in_err-index.ensures.err (open_then (took c.in_ok-bytes.ensures.ok refl (open_then (open_rule begun)))))

pub returns-in_err-index-clause-ok : goal.returns-in_err-index-clause-ok
returns-in_err-index-clause-ok c = IfOk-from_err _ _ c.from_residual-in_err-index.ensures.0

pub returns-clause-ok : goal.returns-clause-ok
returns-clause-ok c = rw c.in_ok-name.ensures.ok (made _ (λ ts. refl) (read c.in_ok-index.ensures.ok (open_then (took c.in_ok-bytes.ensures.ok refl (open_then (open_rule begun))))))
