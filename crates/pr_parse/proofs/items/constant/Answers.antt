use Rattle.std.proofs.Common.{[], ◌∷◌, refl, sym, ap, ◌∙◌, arith}
use Rattle.std.proofs.lemmas.Result.{IfOk-from_err, err_from_is_err_and}
use Rattle.pr_lang.specs.declared.tokens.Keyword.TheVariants.{Const}
use Rattle.pr_lang.specs.declared.tokens.Symbol.TheVariants.{Assign}
use Rattle.pr_lang.specs.declared.tokens.Kind.TheVariants as kind
use Rattle.pr_lang.specs.Tree as tree
use Rattle.pr_parse.specs.Fronts.{led_name}
use Rattle.pr_parse.proofs.Begins.{begins_fixed}
use Rattle.pr_parse.proofs.Steps.{begun, open_then, first, second, made, took, not_there, read, front, failed, front_failed}
use Rattle.std.proofs.Common.{map}
use Rattle.pr_lang.specs.Word.{keyword, symbol}
use Rattle.pr_lang.specs.Is.{name_tree}
use Rattle.pr_lang.specs.Shape.{comma_listed, fixed_shape}
use Rattle.pr_parse.specs.Kinds.{starts_fixed}
use Rattle.pr_parse.proofs.items.constant.Goals as goal

pub returns-in_err-name-clause-err : goal.returns-in_err-name-clause-err
returns-in_err-name-clause-err c = let p = err_from_is_err_and c.from_residual.result c.from_residual.ensures.1 in rw (p.1, p.2) (front_failed (led_name (kind.Word Const)) c.in_err-name.field-0.0 _ c.in_err-name.ensures.err begun)

pub returns-in_err-name-clause-ok : goal.returns-in_err-name-clause-ok
returns-in_err-name-clause-ok c = IfOk-from_err _ _ c.from_residual.ensures.0

pub returns-in_err-name-clause-shorter : goal.returns-in_err-name-clause-shorter
returns-in_err-name-clause-shorter c = IfOk-from_err _ _ c.from_residual.ensures.0

pub returns-in_err-start-clause-err : goal.returns-in_err-start-clause-err
returns-in_err-start-clause-err c = let p = err_from_is_err_and c.from_residual-in_err-start.result c.from_residual-in_err-start.ensures.1 in rw (p.1, p.2) (not_there c.in_err-start.field-0.0 (c.in_err-start.ensures.err c.args.text.now) (open_then (front (led_name (kind.Word Const)) _ c.in_ok-name.ensures.ok begun)))

pub returns-in_err-start-clause-ok : goal.returns-in_err-start-clause-ok
returns-in_err-start-clause-ok c = IfOk-from_err _ _ c.from_residual-in_err-start.ensures.0

pub returns-in_err-start-clause-shorter : goal.returns-in_err-start-clause-shorter
returns-in_err-start-clause-shorter c = IfOk-from_err _ _ c.from_residual-in_err-start.ensures.0

pub returns-in_err-value-clause-err : goal.returns-in_err-value-clause-err
returns-in_err-value-clause-err c = let p = err_from_is_err_and c.from_residual-in_err-value.result c.from_residual-in_err-value.ensures.1 in rw (p.1, p.2) (failed c.in_err-value.field-0.0 c.in_err-value.ensures.err (first (begins_fixed c.args.text.now c.in_ok-start.start.now ∙ ap starts_fixed (sym c.next_kind.ensures) ∙ sym c.begins_fixed.ensures ∙ c.if-begins_fixed.true) (open_then (took (c.in_ok-start.ensures.ok c.args.text.now) refl (open_then (front (led_name (kind.Word Const)) _ c.in_ok-name.ensures.ok begun))))))

pub returns-in_err-value-clause-ok : goal.returns-in_err-value-clause-ok
returns-in_err-value-clause-ok c = IfOk-from_err _ _ c.from_residual-in_err-value.ensures.0

pub returns-in_err-value-clause-shorter : goal.returns-in_err-value-clause-shorter
returns-in_err-value-clause-shorter c = IfOk-from_err _ _ c.from_residual-in_err-value.ensures.0

pub returns-in_err-rest-clause-err : goal.returns-in_err-rest-clause-err
returns-in_err-rest-clause-err c = let p = err_from_is_err_and c.from_residual-in_err-rest.result c.from_residual-in_err-rest.ensures.1 in rw (p.1, p.2) (not_there c.in_err-rest.field-0.0 (c.in_err-rest.ensures.err c.args.text.now) (open_then (read c.in_ok-value.ensures.ok (first (begins_fixed c.args.text.now c.in_ok-start.start.now ∙ ap starts_fixed (sym c.next_kind.ensures) ∙ sym c.begins_fixed.ensures ∙ c.if-begins_fixed.true) (open_then (took (c.in_ok-start.ensures.ok c.args.text.now) refl (open_then (front (led_name (kind.Word Const)) _ c.in_ok-name.ensures.ok begun))))))))

pub returns-in_err-rest-clause-ok : goal.returns-in_err-rest-clause-ok
returns-in_err-rest-clause-ok c = IfOk-from_err _ _ c.from_residual-in_err-rest.ensures.0

pub returns-in_err-rest-clause-shorter : goal.returns-in_err-rest-clause-shorter
returns-in_err-rest-clause-shorter c = IfOk-from_err _ _ c.from_residual-in_err-rest.ensures.0

pub returns-then-begins_fixed-clause-ok : goal.returns-then-begins_fixed-clause-ok
returns-then-begins_fixed-clause-ok c = made _ (λ ts. refl) (took (c.in_ok-rest.ensures.ok c.args.text.now) refl (open_then (read c.in_ok-value.ensures.ok (first (begins_fixed c.args.text.now c.in_ok-start.start.now ∙ ap starts_fixed (sym c.next_kind.ensures) ∙ sym c.begins_fixed.ensures ∙ c.if-begins_fixed.true) (open_then (took (c.in_ok-start.ensures.ok c.args.text.now) refl (open_then (front (led_name (kind.Word Const)) _ c.in_ok-name.ensures.ok begun))))))))

pub returns-then-begins_fixed-clause-shorter : goal.returns-then-begins_fixed-clause-shorter
returns-then-begins_fixed-clause-shorter c = omega (arith, c.in_ok-name.ensures.shorter, c.in_ok-start.ensures.shorter, c.in_ok-value.ensures.ok.within, c.in_ok-rest.ensures.shorter)

pub returns-in_err-inside-clause-err : goal.returns-in_err-inside-clause-err
returns-in_err-inside-clause-err c = let p = err_from_is_err_and c.from_residual-in_err-inside.result c.from_residual-in_err-inside.ensures.1 in rw (p.1, p.2) (not_there c.in_err-inside.field-0.0 (c.in_err-inside.ensures.err c.args.text.now) (open_then (second (begins_fixed c.args.text.now c.in_ok-start.start.now ∙ ap starts_fixed (sym c.next_kind.ensures) ∙ sym c.begins_fixed.ensures ∙ c.if-begins_fixed.false) (open_then (took (c.in_ok-start.ensures.ok c.args.text.now) refl (open_then (front (led_name (kind.Word Const)) _ c.in_ok-name.ensures.ok begun)))))))

pub returns-in_err-inside-clause-ok : goal.returns-in_err-inside-clause-ok
returns-in_err-inside-clause-ok c = IfOk-from_err _ _ c.from_residual-in_err-inside.ensures.0

pub returns-in_err-inside-clause-shorter : goal.returns-in_err-inside-clause-shorter
returns-in_err-inside-clause-shorter c = IfOk-from_err _ _ c.from_residual-in_err-inside.ensures.0

pub returns-in_err-values-clause-err : goal.returns-in_err-values-clause-err
returns-in_err-values-clause-err c = let p = err_from_is_err_and c.from_residual-in_err-values.result c.from_residual-in_err-values.ensures.1 in rw (p.1, p.2) (failed c.in_err-values.field-0.0 c.in_err-values.ensures.err (open_then (took (c.in_ok-inside.ensures.ok c.args.text.now) refl (open_then (second (begins_fixed c.args.text.now c.in_ok-start.start.now ∙ ap starts_fixed (sym c.next_kind.ensures) ∙ sym c.begins_fixed.ensures ∙ c.if-begins_fixed.false) (open_then (took (c.in_ok-start.ensures.ok c.args.text.now) refl (open_then (front (led_name (kind.Word Const)) _ c.in_ok-name.ensures.ok begun)))))))))

pub returns-in_err-values-clause-ok : goal.returns-in_err-values-clause-ok
returns-in_err-values-clause-ok c = IfOk-from_err _ _ c.from_residual-in_err-values.ensures.0

pub returns-in_err-values-clause-shorter : goal.returns-in_err-values-clause-shorter
returns-in_err-values-clause-shorter c = IfOk-from_err _ _ c.from_residual-in_err-values.ensures.0

pub returns-in_err-end-clause-err : goal.returns-in_err-end-clause-err
returns-in_err-end-clause-err c = let p = err_from_is_err_and c.from_residual-in_err-end.result c.from_residual-in_err-end.ensures.1 in rw (p.1, p.2) (not_there c.in_err-end.field-0.0 (c.in_err-end.ensures.err c.args.text.now) (open_then (read c.in_ok-values.ensures.ok (open_then (took (c.in_ok-inside.ensures.ok c.args.text.now) refl (open_then (second (begins_fixed c.args.text.now c.in_ok-start.start.now ∙ ap starts_fixed (sym c.next_kind.ensures) ∙ sym c.begins_fixed.ensures ∙ c.if-begins_fixed.false) (open_then (took (c.in_ok-start.ensures.ok c.args.text.now) refl (open_then (front (led_name (kind.Word Const)) _ c.in_ok-name.ensures.ok begun)))))))))))

pub returns-in_err-end-clause-ok : goal.returns-in_err-end-clause-ok
returns-in_err-end-clause-ok c = IfOk-from_err _ _ c.from_residual-in_err-end.ensures.0

pub returns-in_err-end-clause-shorter : goal.returns-in_err-end-clause-shorter
returns-in_err-end-clause-shorter c = IfOk-from_err _ _ c.from_residual-in_err-end.ensures.0

pub returns-in_err-rest-2-clause-err : goal.returns-in_err-rest-2-clause-err
returns-in_err-rest-2-clause-err c = let p = err_from_is_err_and c.from_residual-in_err-rest-2.result c.from_residual-in_err-rest-2.ensures.1 in rw (p.1, p.2) (not_there c.in_err-rest-2.field-0.0 (c.in_err-rest-2.ensures.err c.args.text.now) (open_then (made (tree.table (comma_listed (map fixed_shape c.in_ok-values.values.items)) ∷ tree.word (symbol Assign) ∷ name_tree c.in_ok-name.name ∷ tree.word (keyword Const) ∷ []) (λ ts. refl) (took (c.in_ok-end.ensures.ok c.args.text.now) refl (open_then (read c.in_ok-values.ensures.ok (open_then (took (c.in_ok-inside.ensures.ok c.args.text.now) refl (open_then (second (begins_fixed c.args.text.now c.in_ok-start.start.now ∙ ap starts_fixed (sym c.next_kind.ensures) ∙ sym c.begins_fixed.ensures ∙ c.if-begins_fixed.false) (open_then (took (c.in_ok-start.ensures.ok c.args.text.now) refl (open_then (front (led_name (kind.Word Const)) _ c.in_ok-name.ensures.ok begun))))))))))))))

pub returns-in_err-rest-2-clause-ok : goal.returns-in_err-rest-2-clause-ok
returns-in_err-rest-2-clause-ok c = IfOk-from_err _ _ c.from_residual-in_err-rest-2.ensures.0

pub returns-in_err-rest-2-clause-shorter : goal.returns-in_err-rest-2-clause-shorter
returns-in_err-rest-2-clause-shorter c = IfOk-from_err _ _ c.from_residual-in_err-rest-2.ensures.0

pub returns-clause-ok : goal.returns-clause-ok
returns-clause-ok c = made _ (λ ts. refl) (took (c.in_ok-rest-2.ensures.ok c.args.text.now) refl (open_then (made (tree.table (comma_listed (map fixed_shape c.in_ok-values.values.items)) ∷ tree.word (symbol Assign) ∷ name_tree c.in_ok-name.name ∷ tree.word (keyword Const) ∷ []) (λ ts. refl) (took (c.in_ok-end.ensures.ok c.args.text.now) refl (open_then (read c.in_ok-values.ensures.ok (open_then (took (c.in_ok-inside.ensures.ok c.args.text.now) refl (open_then (second (begins_fixed c.args.text.now c.in_ok-start.start.now ∙ ap starts_fixed (sym c.next_kind.ensures) ∙ sym c.begins_fixed.ensures ∙ c.if-begins_fixed.false) (open_then (took (c.in_ok-start.ensures.ok c.args.text.now) refl (open_then (front (led_name (kind.Word Const)) _ c.in_ok-name.ensures.ok begun))))))))))))))

pub returns-clause-shorter : goal.returns-clause-shorter
returns-clause-shorter c = omega (arith, c.in_ok-name.ensures.shorter, c.in_ok-start.ensures.shorter, c.in_ok-inside.ensures.shorter, c.in_ok-values.ensures.ok.within, c.in_ok-end.ensures.shorter, c.in_ok-rest-2.ensures.shorter)
