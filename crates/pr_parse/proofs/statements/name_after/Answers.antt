use Rattle.std.proofs.Common.{refl, arith}
use Rattle.std.proofs.lemmas.Result.{IfOk-from_err, err_from_is_err_and}
use Rattle.pr_parse.proofs.Steps.{begun, open_then, took, not_there}
use Rattle.pr_parse.proofs.Takes.{fits_lead}
use Rattle.pr_parse.proofs.statements.name_after.Goals as goal

pub returns-in_err-after-clause-err : goal.returns-in_err-after-clause-err
returns-in_err-after-clause-err c = let p = err_from_is_err_and c.from_residual.result c.from_residual.ensures.1 in rw (p.1, p.2) (λ q. not_there c.in_err-after.field-0.0 (c.in_err-after.ensures.err c.args.text.now) (open_then begun))

pub returns-in_err-after-clause-ok : goal.returns-in_err-after-clause-ok
returns-in_err-after-clause-ok c = IfOk-from_err _ _ c.from_residual.ensures.0

pub returns-in_err-after-clause-shorter : goal.returns-in_err-after-clause-shorter
returns-in_err-after-clause-shorter c = IfOk-from_err _ _ c.from_residual.ensures.0

pub returns-in_err-bytes-clause-err : goal.returns-in_err-bytes-clause-err
returns-in_err-bytes-clause-err c = let p = err_from_is_err_and c.from_residual-in_err-bytes.result c.from_residual-in_err-bytes.ensures.1 in rw (p.1, p.2) (λ q. not_there c.in_err-bytes.field-0.0 c.in_err-bytes.ensures.err (open_then (took (c.in_ok-after.ensures.ok c.args.text.now) (fits_lead c.args.lead c.requires) (open_then begun))))

pub returns-in_err-bytes-clause-ok : goal.returns-in_err-bytes-clause-ok
returns-in_err-bytes-clause-ok c = IfOk-from_err _ _ c.from_residual-in_err-bytes.ensures.0

pub returns-in_err-bytes-clause-shorter : goal.returns-in_err-bytes-clause-shorter
returns-in_err-bytes-clause-shorter c = IfOk-from_err _ _ c.from_residual-in_err-bytes.ensures.0

pub returns-clause-ok : goal.returns-clause-ok
returns-clause-ok c = rw c.in_ok-name.ensures.ok (λ q. took c.in_ok-bytes.ensures.ok refl (open_then (took (c.in_ok-after.ensures.ok c.args.text.now) (fits_lead c.args.lead c.requires) (open_then begun))))

pub returns-clause-shorter : goal.returns-clause-shorter
returns-clause-shorter c = omega (arith, c.in_ok-after.ensures.shorter, c.in_ok-bytes.ensures.ok.shorter)
