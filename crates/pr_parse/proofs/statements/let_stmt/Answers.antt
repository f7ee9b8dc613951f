use Rattle.std.proofs.Common.{refl, arith}
use Rattle.std.proofs.lemmas.Result.{IfOk-from_err, err_from_is_err_and}
use Rattle.pr_lang.specs.declared.tokens.Symbol.TheVariants.{Assign}
use Rattle.pr_lang.specs.declared.tokens.Kind.TheVariants as kind
use Rattle.pr_parse.specs.Fronts.{led_value}
use Rattle.pr_parse.proofs.Steps.{begun, open_then, made, took, not_there, read, front, failed, front_failed}
use Rattle.pr_parse.proofs.statements.let_stmt.Goals as goal

pub returns-in_err-after-clause-err : goal.returns-in_err-after-clause-err
returns-in_err-after-clause-err c = let p = err_from_is_err_and c.from_residual.result c.from_residual.ensures.1 in rw (p.1, p.2) (not_there c.in_err-after.field-0.0 (c.in_err-after.ensures.err c.args.text.now) (open_then begun))

pub returns-in_err-after-clause-ok : goal.returns-in_err-after-clause-ok
returns-in_err-after-clause-ok c = IfOk-from_err _ _ c.from_residual.ensures.0

pub returns-in_err-after-clause-shorter : goal.returns-in_err-after-clause-shorter
returns-in_err-after-clause-shorter c = IfOk-from_err _ _ c.from_residual.ensures.0

pub returns-in_err-target-clause-err : goal.returns-in_err-target-clause-err
returns-in_err-target-clause-err c = let p = err_from_is_err_and c.from_residual-in_err-target.result c.from_residual-in_err-target.ensures.1 in rw (p.1, p.2) (failed c.in_err-target.field-0.0 c.in_err-target.ensures.err (open_then (took (c.in_ok-after.ensures.ok c.args.text.now) refl (open_then begun))))

pub returns-in_err-target-clause-ok : goal.returns-in_err-target-clause-ok
returns-in_err-target-clause-ok c = IfOk-from_err _ _ c.from_residual-in_err-target.ensures.0

pub returns-in_err-target-clause-shorter : goal.returns-in_err-target-clause-shorter
returns-in_err-target-clause-shorter c = IfOk-from_err _ _ c.from_residual-in_err-target.ensures.0

pub returns-in_err-width-clause-err : goal.returns-in_err-width-clause-err
returns-in_err-width-clause-err c = let p = err_from_is_err_and c.from_residual-in_err-width.result c.from_residual-in_err-width.ensures.1 in rw (p.1, p.2) (failed c.in_err-width.field-0.0 c.in_err-width.ensures.err (open_then (read c.in_ok-target.ensures.ok (open_then (took (c.in_ok-after.ensures.ok c.args.text.now) refl (open_then begun))))))

pub returns-in_err-width-clause-ok : goal.returns-in_err-width-clause-ok
returns-in_err-width-clause-ok c = IfOk-from_err _ _ c.from_residual-in_err-width.ensures.0

pub returns-in_err-width-clause-shorter : goal.returns-in_err-width-clause-shorter
returns-in_err-width-clause-shorter c = IfOk-from_err _ _ c.from_residual-in_err-width.ensures.0

pub returns-in_err-value-clause-err : goal.returns-in_err-value-clause-err
returns-in_err-value-clause-err c = let p = err_from_is_err_and c.from_residual-in_err-value.result c.from_residual-in_err-value.ensures.1 in rw (p.1, p.2) (front_failed (led_value (kind.Mark Assign)) c.in_err-value.field-0.0 _ c.in_err-value.ensures.err (read c.in_ok-width.ensures.ok (open_then (read c.in_ok-target.ensures.ok (open_then (took (c.in_ok-after.ensures.ok c.args.text.now) refl (open_then begun)))))))

pub returns-in_err-value-clause-ok : goal.returns-in_err-value-clause-ok
returns-in_err-value-clause-ok c = IfOk-from_err _ _ c.from_residual-in_err-value.ensures.0

pub returns-in_err-value-clause-shorter : goal.returns-in_err-value-clause-shorter
returns-in_err-value-clause-shorter c = IfOk-from_err _ _ c.from_residual-in_err-value.ensures.0

pub returns-clause-ok : goal.returns-clause-ok
returns-clause-ok c = rw c.let_stmt.ensures (made _ (λ ts. refl) (front (led_value (kind.Mark Assign)) _ c.in_ok-value.ensures.ok (read c.in_ok-width.ensures.ok (open_then (read c.in_ok-target.ensures.ok (open_then (took (c.in_ok-after.ensures.ok c.args.text.now) refl (open_then begun))))))))

pub returns-clause-shorter : goal.returns-clause-shorter
returns-clause-shorter c = omega (arith, c.in_ok-after.ensures.shorter, c.in_ok-target.ensures.ok.within, c.in_ok-width.ensures.ok.within, c.in_ok-value.ensures.shorter)
