use Rattle.std.proofs.Common.{refl, arith}
use Rattle.std.proofs.lemmas.Result.{IfOk-from_err, err_from_is_err_and}
use Rattle.pr_lang.specs.declared.tokens.Keyword.TheVariants.{Output}
use Rattle.pr_lang.specs.declared.tokens.Symbol.TheVariants.{Assign}
use Rattle.pr_lang.specs.declared.tokens.Kind.TheVariants as kind
use Rattle.pr_parse.specs.Fronts.{led_value, led_name}
use Rattle.pr_parse.proofs.Steps.{begun, open_then, made, read, front, failed, front_failed}
use Rattle.pr_parse.proofs.items.output.Goals as goal

pub returns-in_err-name-clause-err : goal.returns-in_err-name-clause-err
returns-in_err-name-clause-err c = let p = err_from_is_err_and c.from_residual.result c.from_residual.ensures.1 in rw (p.1, p.2) (front_failed (led_name (kind.Word Output)) c.in_err-name.field-0.0 _ c.in_err-name.ensures.err begun)

pub returns-in_err-name-clause-ok : goal.returns-in_err-name-clause-ok
returns-in_err-name-clause-ok c = IfOk-from_err _ _ c.from_residual.ensures.0

pub returns-in_err-name-clause-shorter : goal.returns-in_err-name-clause-shorter
returns-in_err-name-clause-shorter c = IfOk-from_err _ _ c.from_residual.ensures.0

pub returns-in_err-width-clause-err : goal.returns-in_err-width-clause-err
returns-in_err-width-clause-err c = let p = err_from_is_err_and c.from_residual-in_err-width.result c.from_residual-in_err-width.ensures.1 in rw (p.1, p.2) (failed c.in_err-width.field-0.0 c.in_err-width.ensures.err (open_then (front (led_name (kind.Word Output)) _ c.in_ok-name.ensures.ok begun)))

pub returns-in_err-width-clause-ok : goal.returns-in_err-width-clause-ok
returns-in_err-width-clause-ok c = IfOk-from_err _ _ c.from_residual-in_err-width.ensures.0

pub returns-in_err-width-clause-shorter : goal.returns-in_err-width-clause-shorter
returns-in_err-width-clause-shorter c = IfOk-from_err _ _ c.from_residual-in_err-width.ensures.0

pub returns-in_err-value-clause-err : goal.returns-in_err-value-clause-err
returns-in_err-value-clause-err c = let p = err_from_is_err_and c.from_residual-in_err-value.result c.from_residual-in_err-value.ensures.1 in rw (p.1, p.2) (front_failed (led_value (kind.Mark Assign)) c.in_err-value.field-0.0 _ c.in_err-value.ensures.err (read c.in_ok-width.ensures.ok (open_then (front (led_name (kind.Word Output)) _ c.in_ok-name.ensures.ok begun))))

pub returns-in_err-value-clause-ok : goal.returns-in_err-value-clause-ok
returns-in_err-value-clause-ok c = IfOk-from_err _ _ c.from_residual-in_err-value.ensures.0

pub returns-in_err-value-clause-shorter : goal.returns-in_err-value-clause-shorter
returns-in_err-value-clause-shorter c = IfOk-from_err _ _ c.from_residual-in_err-value.ensures.0

pub returns-clause-ok : goal.returns-clause-ok
returns-clause-ok c = made _ (λ ts. refl) (front (led_value (kind.Mark Assign)) _ c.in_ok-value.ensures.ok (read c.in_ok-width.ensures.ok (open_then (front (led_name (kind.Word Output)) _ c.in_ok-name.ensures.ok begun))))

pub returns-clause-shorter : goal.returns-clause-shorter
returns-clause-shorter c = omega (arith, c.in_ok-name.ensures.shorter, c.in_ok-width.ensures.ok.within, c.in_ok-value.ensures.shorter)
