use Rattle.std.proofs.Common.{refl, arith}
use Rattle.std.proofs.lemmas.Result.{IfOk-from_err, err_from_is_err_and}
use Rattle.pr_lang.specs.declared.tokens.Keyword.TheVariants.{Input}
use Rattle.pr_lang.specs.declared.tokens.Kind.TheVariants as kind
use Rattle.pr_parse.specs.Fronts.{led_name}
use Rattle.pr_parse.proofs.Steps.{begun, open_then, made, took, not_there, front, front_failed}
use Rattle.pr_parse.proofs.items.input.Goals as goal

pub returns-in_err-name-clause-err : goal.returns-in_err-name-clause-err
returns-in_err-name-clause-err c = let p = err_from_is_err_and c.from_residual.result c.from_residual.ensures.1 in rw (p.1, p.2) (front_failed (led_name (kind.Word Input)) c.in_err-name.field-0.0 _ c.in_err-name.ensures.err begun)

pub returns-in_err-name-clause-ok : goal.returns-in_err-name-clause-ok
returns-in_err-name-clause-ok c = IfOk-from_err _ _ c.from_residual.ensures.0

pub returns-in_err-name-clause-shorter : goal.returns-in_err-name-clause-shorter
returns-in_err-name-clause-shorter c = IfOk-from_err _ _ c.from_residual.ensures.0

pub returns-in_err-after-clause-err : goal.returns-in_err-after-clause-err
returns-in_err-after-clause-err c = let p = err_from_is_err_and c.from_residual-in_err-after.result c.from_residual-in_err-after.ensures.1 in rw (p.1, p.2) (not_there c.in_err-after.field-0.0 (c.in_err-after.ensures.err c.args.text.now) (open_then (front (led_name (kind.Word Input)) _ c.in_ok-name.ensures.ok begun)))

pub returns-in_err-after-clause-ok : goal.returns-in_err-after-clause-ok
returns-in_err-after-clause-ok c = IfOk-from_err _ _ c.from_residual-in_err-after.ensures.0

pub returns-in_err-after-clause-shorter : goal.returns-in_err-after-clause-shorter
returns-in_err-after-clause-shorter c = IfOk-from_err _ _ c.from_residual-in_err-after.ensures.0

pub returns-in_err-width-clause-err : goal.returns-in_err-width-clause-err
returns-in_err-width-clause-err c = let p = err_from_is_err_and c.from_residual-in_err-width.result c.from_residual-in_err-width.ensures.1 in rw (p.1, p.2) (not_there c.in_err-width.field-0.0 (c.in_err-width.ensures.err c.args.text.now) (open_then (took (c.in_ok-after.ensures.ok c.args.text.now) refl (open_then (front (led_name (kind.Word Input)) _ c.in_ok-name.ensures.ok begun)))))

pub returns-in_err-width-clause-ok : goal.returns-in_err-width-clause-ok
returns-in_err-width-clause-ok c = IfOk-from_err _ _ c.from_residual-in_err-width.ensures.0

pub returns-in_err-width-clause-shorter : goal.returns-in_err-width-clause-shorter
returns-in_err-width-clause-shorter c = IfOk-from_err _ _ c.from_residual-in_err-width.ensures.0

pub returns-in_err-rest-clause-err : goal.returns-in_err-rest-clause-err
returns-in_err-rest-clause-err c = let p = err_from_is_err_and c.from_residual-in_err-rest.result c.from_residual-in_err-rest.ensures.1 in rw (p.1, p.2) (not_there c.in_err-rest.field-0.0 (c.in_err-rest.ensures.err c.args.text.now) (open_then (took (c.in_ok-width.ensures.ok c.args.text.now) refl (open_then (took (c.in_ok-after.ensures.ok c.args.text.now) refl (open_then (front (led_name (kind.Word Input)) _ c.in_ok-name.ensures.ok begun)))))))

pub returns-in_err-rest-clause-ok : goal.returns-in_err-rest-clause-ok
returns-in_err-rest-clause-ok c = IfOk-from_err _ _ c.from_residual-in_err-rest.ensures.0

pub returns-in_err-rest-clause-shorter : goal.returns-in_err-rest-clause-shorter
returns-in_err-rest-clause-shorter c = IfOk-from_err _ _ c.from_residual-in_err-rest.ensures.0

pub returns-clause-ok : goal.returns-clause-ok
returns-clause-ok c = made _ (λ ts. refl) (took (c.in_ok-rest.ensures.ok c.args.text.now) refl (open_then (took (c.in_ok-width.ensures.ok c.args.text.now) refl (open_then (took (c.in_ok-after.ensures.ok c.args.text.now) refl (open_then (front (led_name (kind.Word Input)) _ c.in_ok-name.ensures.ok begun)))))))

pub returns-clause-shorter : goal.returns-clause-shorter
returns-clause-shorter c = omega (arith, c.in_ok-name.ensures.shorter, c.in_ok-after.ensures.shorter, c.in_ok-width.ensures.shorter, c.in_ok-rest.ensures.shorter)
