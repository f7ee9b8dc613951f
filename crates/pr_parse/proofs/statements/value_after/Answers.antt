use Rattle.std.proofs.Common.{refl, arith}
use Rattle.std.proofs.lemmas.Result.{IfOk-from_err, err_from_is_err_and}
use Rattle.pr_parse.proofs.Steps.{begun, open_then, took, not_there, read, failed}
use Rattle.pr_parse.proofs.Takes.{fits_lead}
use Rattle.pr_parse.proofs.statements.value_after.Goals as goal

pub returns-in_err-inside-clause-err : goal.returns-in_err-inside-clause-err
returns-in_err-inside-clause-err c = let p = err_from_is_err_and c.from_residual.result c.from_residual.ensures.1 in rw (p.1, p.2) (λ q. not_there c.in_err-inside.field-0.0 (c.in_err-inside.ensures.err c.args.text.now) (open_then begun))

pub returns-in_err-inside-clause-ok : goal.returns-in_err-inside-clause-ok
returns-in_err-inside-clause-ok c = IfOk-from_err _ _ c.from_residual.ensures.0

pub returns-in_err-inside-clause-shorter : goal.returns-in_err-inside-clause-shorter
returns-in_err-inside-clause-shorter c = IfOk-from_err _ _ c.from_residual.ensures.0

pub returns-in_err-value-clause-err : goal.returns-in_err-value-clause-err
returns-in_err-value-clause-err c = let p = err_from_is_err_and c.from_residual-in_err-value.result c.from_residual-in_err-value.ensures.1 in rw (p.1, p.2) (λ q. failed c.in_err-value.field-0.0 c.in_err-value.ensures.err (open_then (took (c.in_ok-inside.ensures.ok c.args.text.now) (fits_lead c.args.lead c.requires) (open_then begun))))

pub returns-in_err-value-clause-ok : goal.returns-in_err-value-clause-ok
returns-in_err-value-clause-ok c = IfOk-from_err _ _ c.from_residual-in_err-value.ensures.0

pub returns-in_err-value-clause-shorter : goal.returns-in_err-value-clause-shorter
returns-in_err-value-clause-shorter c = IfOk-from_err _ _ c.from_residual-in_err-value.ensures.0

pub returns-in_err-rest-clause-err : goal.returns-in_err-rest-clause-err
returns-in_err-rest-clause-err c = let p = err_from_is_err_and c.from_residual-in_err-rest.result c.from_residual-in_err-rest.ensures.1 in rw (p.1, p.2) (λ q. not_there c.in_err-rest.field-0.0 (c.in_err-rest.ensures.err c.args.text.now) (open_then (read c.in_ok-value.ensures.ok (open_then (took (c.in_ok-inside.ensures.ok c.args.text.now) (fits_lead c.args.lead c.requires) (open_then begun))))))

pub returns-in_err-rest-clause-ok : goal.returns-in_err-rest-clause-ok
returns-in_err-rest-clause-ok c = IfOk-from_err _ _ c.from_residual-in_err-rest.ensures.0

pub returns-in_err-rest-clause-shorter : goal.returns-in_err-rest-clause-shorter
returns-in_err-rest-clause-shorter c = IfOk-from_err _ _ c.from_residual-in_err-rest.ensures.0

pub returns-clause-ok : goal.returns-clause-ok
returns-clause-ok c = λ q. took (c.in_ok-rest.ensures.ok c.args.text.now) refl (open_then (read c.in_ok-value.ensures.ok (open_then (took (c.in_ok-inside.ensures.ok c.args.text.now) (fits_lead c.args.lead c.requires) (open_then begun)))))

pub returns-clause-shorter : goal.returns-clause-shorter
returns-clause-shorter c = omega (arith, c.in_ok-inside.ensures.shorter, c.in_ok-value.ensures.ok.within, c.in_ok-rest.ensures.shorter)
