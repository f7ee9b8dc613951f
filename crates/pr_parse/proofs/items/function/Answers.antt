use Rattle.std.proofs.Common.{refl, arith}
use Rattle.std.proofs.lemmas.Result.{IfOk-from_err, err_from_is_err_and}
use Rattle.pr_lang.specs.declared.tokens.Keyword.TheVariants.{Fn, Return}
use Rattle.pr_lang.specs.declared.tokens.Kind.TheVariants as kind
use Rattle.pr_parse.specs.Fronts.{led_value, led_name}
use Rattle.pr_parse.proofs.Steps.{begun, open_then, made, took, not_there, read, front, failed, front_failed}
use Rattle.pr_parse.proofs.items.function.Goals as goal

pub returns-in_err-name-clause-err : goal.returns-in_err-name-clause-err
returns-in_err-name-clause-err c = let p = err_from_is_err_and c.from_residual.result c.from_residual.ensures.1 in rw (p.1, p.2) (front_failed (led_name (kind.Word Fn)) c.in_err-name.field-0.0 _ c.in_err-name.ensures.err begun)

pub returns-in_err-name-clause-ok : goal.returns-in_err-name-clause-ok
returns-in_err-name-clause-ok c = IfOk-from_err _ _ c.from_residual.ensures.0

pub returns-in_err-name-clause-shorter : goal.returns-in_err-name-clause-shorter
returns-in_err-name-clause-shorter c = IfOk-from_err _ _ c.from_residual.ensures.0

pub returns-in_err-after-clause-err : goal.returns-in_err-after-clause-err
returns-in_err-after-clause-err c = let p = err_from_is_err_and c.from_residual-in_err-after.result c.from_residual-in_err-after.ensures.1 in rw (p.1, p.2) (not_there c.in_err-after.field-0.0 (c.in_err-after.ensures.err c.args.text.now) (open_then (front (led_name (kind.Word Fn)) _ c.in_ok-name.ensures.ok begun)))

pub returns-in_err-after-clause-ok : goal.returns-in_err-after-clause-ok
returns-in_err-after-clause-ok c = IfOk-from_err _ _ c.from_residual-in_err-after.ensures.0

pub returns-in_err-after-clause-shorter : goal.returns-in_err-after-clause-shorter
returns-in_err-after-clause-shorter c = IfOk-from_err _ _ c.from_residual-in_err-after.ensures.0

pub returns-in_err-params-clause-err : goal.returns-in_err-params-clause-err
returns-in_err-params-clause-err c = let p = err_from_is_err_and c.from_residual-in_err-params.result c.from_residual-in_err-params.ensures.1 in rw (p.1, p.2) (failed c.in_err-params.field-0.0 c.in_err-params.ensures.err (open_then (took (c.in_ok-after.ensures.ok c.args.text.now) refl (open_then (front (led_name (kind.Word Fn)) _ c.in_ok-name.ensures.ok begun)))))

pub returns-in_err-params-clause-ok : goal.returns-in_err-params-clause-ok
returns-in_err-params-clause-ok c = IfOk-from_err _ _ c.from_residual-in_err-params.ensures.0

pub returns-in_err-params-clause-shorter : goal.returns-in_err-params-clause-shorter
returns-in_err-params-clause-shorter c = IfOk-from_err _ _ c.from_residual-in_err-params.ensures.0

pub returns-in_err-after-2-clause-err : goal.returns-in_err-after-2-clause-err
returns-in_err-after-2-clause-err c = let p = err_from_is_err_and c.from_residual-in_err-after-2.result c.from_residual-in_err-after-2.ensures.1 in rw (p.1, p.2) (not_there c.in_err-after-2.field-0.0 (c.in_err-after-2.ensures.err c.args.text.now) (open_then (read c.in_ok-params.ensures.ok (open_then (took (c.in_ok-after.ensures.ok c.args.text.now) refl (open_then (front (led_name (kind.Word Fn)) _ c.in_ok-name.ensures.ok begun)))))))

pub returns-in_err-after-2-clause-ok : goal.returns-in_err-after-2-clause-ok
returns-in_err-after-2-clause-ok c = IfOk-from_err _ _ c.from_residual-in_err-after-2.ensures.0

pub returns-in_err-after-2-clause-shorter : goal.returns-in_err-after-2-clause-shorter
returns-in_err-after-2-clause-shorter c = IfOk-from_err _ _ c.from_residual-in_err-after-2.ensures.0

pub returns-in_err-width-clause-err : goal.returns-in_err-width-clause-err
returns-in_err-width-clause-err c = let p = err_from_is_err_and c.from_residual-in_err-width.result c.from_residual-in_err-width.ensures.1 in rw (p.1, p.2) (failed c.in_err-width.field-0.0 c.in_err-width.ensures.err (open_then (took (c.in_ok-after-2.ensures.ok c.args.text.now) refl (open_then (read c.in_ok-params.ensures.ok (open_then (took (c.in_ok-after.ensures.ok c.args.text.now) refl (open_then (front (led_name (kind.Word Fn)) _ c.in_ok-name.ensures.ok begun)))))))))

pub returns-in_err-width-clause-ok : goal.returns-in_err-width-clause-ok
returns-in_err-width-clause-ok c = IfOk-from_err _ _ c.from_residual-in_err-width.ensures.0

pub returns-in_err-width-clause-shorter : goal.returns-in_err-width-clause-shorter
returns-in_err-width-clause-shorter c = IfOk-from_err _ _ c.from_residual-in_err-width.ensures.0

pub returns-in_err-after-3-clause-err : goal.returns-in_err-after-3-clause-err
returns-in_err-after-3-clause-err c = let p = err_from_is_err_and c.from_residual-in_err-after-3.result c.from_residual-in_err-after-3.ensures.1 in rw (p.1, p.2) (not_there c.in_err-after-3.field-0.0 (c.in_err-after-3.ensures.err c.args.text.now) (open_then (read c.in_ok-width.ensures.ok (open_then (took (c.in_ok-after-2.ensures.ok c.args.text.now) refl (open_then (read c.in_ok-params.ensures.ok (open_then (took (c.in_ok-after.ensures.ok c.args.text.now) refl (open_then (front (led_name (kind.Word Fn)) _ c.in_ok-name.ensures.ok begun)))))))))))

pub returns-in_err-after-3-clause-ok : goal.returns-in_err-after-3-clause-ok
returns-in_err-after-3-clause-ok c = IfOk-from_err _ _ c.from_residual-in_err-after-3.ensures.0

pub returns-in_err-after-3-clause-shorter : goal.returns-in_err-after-3-clause-shorter
returns-in_err-after-3-clause-shorter c = IfOk-from_err _ _ c.from_residual-in_err-after-3.ensures.0

pub returns-in_err-body-clause-err : goal.returns-in_err-body-clause-err
returns-in_err-body-clause-err c = let p = err_from_is_err_and c.from_residual-in_err-body.result c.from_residual-in_err-body.ensures.1 in rw (p.1, p.2) (failed c.in_err-body.field-0.0 c.in_err-body.ensures.err (open_then (took (c.in_ok-after-3.ensures.ok c.args.text.now) refl (open_then (read c.in_ok-width.ensures.ok (open_then (took (c.in_ok-after-2.ensures.ok c.args.text.now) refl (open_then (read c.in_ok-params.ensures.ok (open_then (took (c.in_ok-after.ensures.ok c.args.text.now) refl (open_then (front (led_name (kind.Word Fn)) _ c.in_ok-name.ensures.ok begun)))))))))))))

pub returns-in_err-body-clause-ok : goal.returns-in_err-body-clause-ok
returns-in_err-body-clause-ok c = IfOk-from_err _ _ c.from_residual-in_err-body.ensures.0

pub returns-in_err-body-clause-shorter : goal.returns-in_err-body-clause-shorter
returns-in_err-body-clause-shorter c = IfOk-from_err _ _ c.from_residual-in_err-body.ensures.0

pub returns-in_err-result-clause-err : goal.returns-in_err-result-clause-err
returns-in_err-result-clause-err c = let p = err_from_is_err_and c.from_residual-in_err-result.result c.from_residual-in_err-result.ensures.1 in rw (p.1, p.2) (front_failed (led_value (kind.Word Return)) c.in_err-result.field-0.0 _ c.in_err-result.ensures.err (read c.in_ok-body.ensures.ok (open_then (took (c.in_ok-after-3.ensures.ok c.args.text.now) refl (open_then (read c.in_ok-width.ensures.ok (open_then (took (c.in_ok-after-2.ensures.ok c.args.text.now) refl (open_then (read c.in_ok-params.ensures.ok (open_then (took (c.in_ok-after.ensures.ok c.args.text.now) refl (open_then (front (led_name (kind.Word Fn)) _ c.in_ok-name.ensures.ok begun))))))))))))))

pub returns-in_err-result-clause-ok : goal.returns-in_err-result-clause-ok
returns-in_err-result-clause-ok c = IfOk-from_err _ _ c.from_residual-in_err-result.ensures.0

pub returns-in_err-result-clause-shorter : goal.returns-in_err-result-clause-shorter
returns-in_err-result-clause-shorter c = IfOk-from_err _ _ c.from_residual-in_err-result.ensures.0

pub returns-in_err-rest-clause-err : goal.returns-in_err-rest-clause-err
returns-in_err-rest-clause-err c = let p = err_from_is_err_and c.from_residual-in_err-rest.result c.from_residual-in_err-rest.ensures.1 in rw (p.1, p.2) (not_there c.in_err-rest.field-0.0 (c.in_err-rest.ensures.err c.args.text.now) (open_then (front (led_value (kind.Word Return)) _ c.in_ok-result.ensures.ok (read c.in_ok-body.ensures.ok (open_then (took (c.in_ok-after-3.ensures.ok c.args.text.now) refl (open_then (read c.in_ok-width.ensures.ok (open_then (took (c.in_ok-after-2.ensures.ok c.args.text.now) refl (open_then (read c.in_ok-params.ensures.ok (open_then (took (c.in_ok-after.ensures.ok c.args.text.now) refl (open_then (front (led_name (kind.Word Fn)) _ c.in_ok-name.ensures.ok begun))))))))))))))))

pub returns-in_err-rest-clause-ok : goal.returns-in_err-rest-clause-ok
returns-in_err-rest-clause-ok c = IfOk-from_err _ _ c.from_residual-in_err-rest.ensures.0

pub returns-in_err-rest-clause-shorter : goal.returns-in_err-rest-clause-shorter
returns-in_err-rest-clause-shorter c = IfOk-from_err _ _ c.from_residual-in_err-rest.ensures.0

pub returns-clause-ok : goal.returns-clause-ok
returns-clause-ok c = made _ (λ ts. refl) (took (c.in_ok-rest.ensures.ok c.args.text.now) refl (open_then (front (led_value (kind.Word Return)) _ c.in_ok-result.ensures.ok (read c.in_ok-body.ensures.ok (open_then (took (c.in_ok-after-3.ensures.ok c.args.text.now) refl (open_then (read c.in_ok-width.ensures.ok (open_then (took (c.in_ok-after-2.ensures.ok c.args.text.now) refl (open_then (read c.in_ok-params.ensures.ok (open_then (took (c.in_ok-after.ensures.ok c.args.text.now) refl (open_then (front (led_name (kind.Word Fn)) _ c.in_ok-name.ensures.ok begun))))))))))))))))

pub returns-clause-shorter : goal.returns-clause-shorter
returns-clause-shorter c = omega (arith, c.in_ok-name.ensures.shorter, c.in_ok-after.ensures.shorter, c.in_ok-params.ensures.ok.within, c.in_ok-after-2.ensures.shorter, c.in_ok-width.ensures.ok.within, c.in_ok-after-3.ensures.shorter, c.in_ok-body.ensures.ok.within, c.in_ok-result.ensures.shorter, c.in_ok-rest.ensures.shorter)
