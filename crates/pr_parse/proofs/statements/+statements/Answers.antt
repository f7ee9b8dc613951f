use Rattle.std.proofs.Common.{[], ◌∷◌, refl, sym, ap, ◌∙◌, arith}
use Rattle.std.proofs.lemmas.Result.{IfOk-from_err, err_from_is_err_and, IfOk-weaker}
use Rattle.pr_lang.specs.declared.tokens.Keyword.TheVariants.{Let, Rec, For}
use Rattle.pr_lang.specs.declared.tokens.Kind.TheVariants as kind
use Rattle.pr_lang.specs.Word.{this_keyword}
use Rattle.pr_lang.specs.Tree as tree
use Rattle.pr_parse.specs.Fronts.{led_name}
use Rattle.pr_parse.proofs.Begins.{begins_then_stmt}
use Rattle.pr_parse.proofs.Steps.{begun, open_rule, open_then, first, second, again, no_more, made, took, not_there, read, front, failed, front_failed, passed_on, by_test}
use Rattle.pr_parse.specs.Kinds.{starts_stmt}
use Rattle.pr_parse.proofs.statements.+statements.Goals as goal

pub stmt-returns-then-is-clause-ok : goal.stmt-returns-then-is-clause-ok
stmt-returns-then-is-clause-ok t c = IfOk-weaker _ _ _ (λ x r. read r (first (by_test (this_keyword Let) _ c.args.text.now c.args.tokens.now (c.is.ensures c.args.text.now) c.if-is.true) (open_rule begun))) c.let_stmt.ensures.ok

pub stmt-returns-then-is-clause-err : goal.stmt-returns-then-is-clause-err
stmt-returns-then-is-clause-err t c = passed_on c.let_stmt.result (first (by_test (this_keyword Let) _ c.args.text.now c.args.tokens.now (c.is.ensures c.args.text.now) c.if-is.true) (open_rule begun)) c.let_stmt.ensures.err

pub stmt-returns-then-is-2-clause-ok : goal.stmt-returns-then-is-2-clause-ok
stmt-returns-then-is-2-clause-ok t c = IfOk-weaker _ _ _ (λ x r. read r (first (by_test (this_keyword Rec) _ c.args.text.now c.args.tokens.now (c.is-2.ensures c.args.text.now) c.if-is-2.true) (second (by_test (this_keyword Let) _ c.args.text.now c.args.tokens.now (c.is.ensures c.args.text.now) c.if-is.false) (open_rule begun)))) c.rec_stmt.ensures.ok

pub stmt-returns-then-is-2-clause-err : goal.stmt-returns-then-is-2-clause-err
stmt-returns-then-is-2-clause-err t c = passed_on c.rec_stmt.result (first (by_test (this_keyword Rec) _ c.args.text.now c.args.tokens.now (c.is-2.ensures c.args.text.now) c.if-is-2.true) (second (by_test (this_keyword Let) _ c.args.text.now c.args.tokens.now (c.is.ensures c.args.text.now) c.if-is.false) (open_rule begun))) c.rec_stmt.ensures.err

pub stmt-returns-clause-ok : goal.stmt-returns-clause-ok
stmt-returns-clause-ok t c = IfOk-weaker _ _ _ (λ x r. read r (second (by_test (this_keyword Rec) _ c.args.text.now c.args.tokens.now (c.is-2.ensures c.args.text.now) c.if-is-2.false) (second (by_test (this_keyword Let) _ c.args.text.now c.args.tokens.now (c.is.ensures c.args.text.now) c.if-is.false) (open_rule begun)))) c.for_stmt.ensures.ok

pub stmt-returns-clause-err : goal.stmt-returns-clause-err
stmt-returns-clause-err t c = passed_on c.for_stmt.result (second (by_test (this_keyword Rec) _ c.args.text.now c.args.tokens.now (c.is-2.ensures c.args.text.now) c.if-is-2.false) (second (by_test (this_keyword Let) _ c.args.text.now c.args.tokens.now (c.is.ensures c.args.text.now) c.if-is.false) (open_rule begun))) c.for_stmt.ensures.err

pub for_stmt-returns-in_err-index-clause-err : goal.for_stmt-returns-in_err-index-clause-err
for_stmt-returns-in_err-index-clause-err t c = let p = err_from_is_err_and c.from_residual.result c.from_residual.ensures.1 in rw (p.1, p.2) (front_failed (led_name (kind.Word For)) c.in_err-index.field-0.0 _ c.in_err-index.ensures.err begun)

pub for_stmt-returns-in_err-index-clause-ok : goal.for_stmt-returns-in_err-index-clause-ok
for_stmt-returns-in_err-index-clause-ok t c = IfOk-from_err _ _ c.from_residual.ensures.0

pub for_stmt-returns-in_err-index-clause-shorter : goal.for_stmt-returns-in_err-index-clause-shorter
for_stmt-returns-in_err-index-clause-shorter t c = IfOk-from_err _ _ c.from_residual.ensures.0

pub for_stmt-returns-in_err-after-clause-err : goal.for_stmt-returns-in_err-after-clause-err
for_stmt-returns-in_err-after-clause-err t c = let p = err_from_is_err_and c.from_residual-in_err-after.result c.from_residual-in_err-after.ensures.1 in rw (p.1, p.2) (not_there c.in_err-after.field-0.0 (c.in_err-after.ensures.err c.args.text.now) (open_then (front (led_name (kind.Word For)) _ c.in_ok-index.ensures.ok begun)))

pub for_stmt-returns-in_err-after-clause-ok : goal.for_stmt-returns-in_err-after-clause-ok
for_stmt-returns-in_err-after-clause-ok t c = IfOk-from_err _ _ c.from_residual-in_err-after.ensures.0

pub for_stmt-returns-in_err-after-clause-shorter : goal.for_stmt-returns-in_err-after-clause-shorter
for_stmt-returns-in_err-after-clause-shorter t c = IfOk-from_err _ _ c.from_residual-in_err-after.ensures.0

pub for_stmt-returns-in_err-low-clause-err : goal.for_stmt-returns-in_err-low-clause-err
for_stmt-returns-in_err-low-clause-err t c = let p = err_from_is_err_and c.from_residual-in_err-low.result c.from_residual-in_err-low.ensures.1 in rw (p.1, p.2) (failed c.in_err-low.field-0.0 c.in_err-low.ensures.err (open_then (took (c.in_ok-after.ensures.ok c.args.text.now) refl (open_then (front (led_name (kind.Word For)) _ c.in_ok-index.ensures.ok begun)))))

pub for_stmt-returns-in_err-low-clause-ok : goal.for_stmt-returns-in_err-low-clause-ok
for_stmt-returns-in_err-low-clause-ok t c = IfOk-from_err _ _ c.from_residual-in_err-low.ensures.0

pub for_stmt-returns-in_err-low-clause-shorter : goal.for_stmt-returns-in_err-low-clause-shorter
for_stmt-returns-in_err-low-clause-shorter t c = IfOk-from_err _ _ c.from_residual-in_err-low.ensures.0

pub for_stmt-returns-in_err-after-2-clause-err : goal.for_stmt-returns-in_err-after-2-clause-err
for_stmt-returns-in_err-after-2-clause-err t c = let p = err_from_is_err_and c.from_residual-in_err-after-2.result c.from_residual-in_err-after-2.ensures.1 in rw (p.1, p.2) (not_there c.in_err-after-2.field-0.0 (c.in_err-after-2.ensures.err c.args.text.now) (open_then (read c.in_ok-low.ensures.ok (open_then (took (c.in_ok-after.ensures.ok c.args.text.now) refl (open_then (front (led_name (kind.Word For)) _ c.in_ok-index.ensures.ok begun)))))))

pub for_stmt-returns-in_err-after-2-clause-ok : goal.for_stmt-returns-in_err-after-2-clause-ok
for_stmt-returns-in_err-after-2-clause-ok t c = IfOk-from_err _ _ c.from_residual-in_err-after-2.ensures.0

pub for_stmt-returns-in_err-after-2-clause-shorter : goal.for_stmt-returns-in_err-after-2-clause-shorter
for_stmt-returns-in_err-after-2-clause-shorter t c = IfOk-from_err _ _ c.from_residual-in_err-after-2.ensures.0

pub for_stmt-returns-in_err-high-clause-err : goal.for_stmt-returns-in_err-high-clause-err
for_stmt-returns-in_err-high-clause-err t c = let p = err_from_is_err_and c.from_residual-in_err-high.result c.from_residual-in_err-high.ensures.1 in rw (p.1, p.2) (failed c.in_err-high.field-0.0 c.in_err-high.ensures.err (open_then (took (c.in_ok-after-2.ensures.ok c.args.text.now) refl (open_then (read c.in_ok-low.ensures.ok (open_then (took (c.in_ok-after.ensures.ok c.args.text.now) refl (open_then (front (led_name (kind.Word For)) _ c.in_ok-index.ensures.ok begun)))))))))

pub for_stmt-returns-in_err-high-clause-ok : goal.for_stmt-returns-in_err-high-clause-ok
for_stmt-returns-in_err-high-clause-ok t c = IfOk-from_err _ _ c.from_residual-in_err-high.ensures.0

pub for_stmt-returns-in_err-high-clause-shorter : goal.for_stmt-returns-in_err-high-clause-shorter
for_stmt-returns-in_err-high-clause-shorter t c = IfOk-from_err _ _ c.from_residual-in_err-high.ensures.0

pub for_stmt-returns-in_err-after-3-clause-err : goal.for_stmt-returns-in_err-after-3-clause-err
for_stmt-returns-in_err-after-3-clause-err t c = let p = err_from_is_err_and c.from_residual-in_err-after-3.result c.from_residual-in_err-after-3.ensures.1 in rw (p.1, p.2) (not_there c.in_err-after-3.field-0.0 (c.in_err-after-3.ensures.err c.args.text.now) (open_then (read c.in_ok-high.ensures.ok (open_then (took (c.in_ok-after-2.ensures.ok c.args.text.now) refl (open_then (read c.in_ok-low.ensures.ok (open_then (took (c.in_ok-after.ensures.ok c.args.text.now) refl (open_then (front (led_name (kind.Word For)) _ c.in_ok-index.ensures.ok begun)))))))))))

pub for_stmt-returns-in_err-after-3-clause-ok : goal.for_stmt-returns-in_err-after-3-clause-ok
for_stmt-returns-in_err-after-3-clause-ok t c = IfOk-from_err _ _ c.from_residual-in_err-after-3.ensures.0

pub for_stmt-returns-in_err-after-3-clause-shorter : goal.for_stmt-returns-in_err-after-3-clause-shorter
for_stmt-returns-in_err-after-3-clause-shorter t c = IfOk-from_err _ _ c.from_residual-in_err-after-3.ensures.0

pub for_stmt-returns-in_err-body-clause-err : goal.for_stmt-returns-in_err-body-clause-err
for_stmt-returns-in_err-body-clause-err t c = let p = err_from_is_err_and c.from_residual-in_err-body.result c.from_residual-in_err-body.ensures.1 in rw (p.1, p.2) (failed c.in_err-body.field-0.0 c.in_err-body.ensures.err (open_then (took (c.in_ok-after-3.ensures.ok c.args.text.now) refl (open_then (read c.in_ok-high.ensures.ok (open_then (took (c.in_ok-after-2.ensures.ok c.args.text.now) refl (open_then (read c.in_ok-low.ensures.ok (open_then (took (c.in_ok-after.ensures.ok c.args.text.now) refl (open_then (front (led_name (kind.Word For)) _ c.in_ok-index.ensures.ok begun)))))))))))))

pub for_stmt-returns-in_err-body-clause-ok : goal.for_stmt-returns-in_err-body-clause-ok
for_stmt-returns-in_err-body-clause-ok t c = IfOk-from_err _ _ c.from_residual-in_err-body.ensures.0

pub for_stmt-returns-in_err-body-clause-shorter : goal.for_stmt-returns-in_err-body-clause-shorter
for_stmt-returns-in_err-body-clause-shorter t c = IfOk-from_err _ _ c.from_residual-in_err-body.ensures.0

pub for_stmt-returns-in_err-rest-clause-err : goal.for_stmt-returns-in_err-rest-clause-err
for_stmt-returns-in_err-rest-clause-err t c = let p = err_from_is_err_and c.from_residual-in_err-rest.result c.from_residual-in_err-rest.ensures.1 in rw (p.1, p.2) (not_there c.in_err-rest.field-0.0 (c.in_err-rest.ensures.err c.args.text.now) (open_then (read c.in_ok-body.ensures.ok (open_then (took (c.in_ok-after-3.ensures.ok c.args.text.now) refl (open_then (read c.in_ok-high.ensures.ok (open_then (took (c.in_ok-after-2.ensures.ok c.args.text.now) refl (open_then (read c.in_ok-low.ensures.ok (open_then (took (c.in_ok-after.ensures.ok c.args.text.now) refl (open_then (front (led_name (kind.Word For)) _ c.in_ok-index.ensures.ok begun)))))))))))))))

pub for_stmt-returns-in_err-rest-clause-ok : goal.for_stmt-returns-in_err-rest-clause-ok
for_stmt-returns-in_err-rest-clause-ok t c = IfOk-from_err _ _ c.from_residual-in_err-rest.ensures.0

pub for_stmt-returns-in_err-rest-clause-shorter : goal.for_stmt-returns-in_err-rest-clause-shorter
for_stmt-returns-in_err-rest-clause-shorter t c = IfOk-from_err _ _ c.from_residual-in_err-rest.ensures.0

pub for_stmt-returns-clause-ok : goal.for_stmt-returns-clause-ok
for_stmt-returns-clause-ok t c = rw c.for_stmt.ensures (made _ (λ ts. refl) (took (c.in_ok-rest.ensures.ok c.args.text.now) refl (open_then (read c.in_ok-body.ensures.ok (open_then (took (c.in_ok-after-3.ensures.ok c.args.text.now) refl (open_then (read c.in_ok-high.ensures.ok (open_then (took (c.in_ok-after-2.ensures.ok c.args.text.now) refl (open_then (read c.in_ok-low.ensures.ok (open_then (took (c.in_ok-after.ensures.ok c.args.text.now) refl (open_then (front (led_name (kind.Word For)) _ c.in_ok-index.ensures.ok begun))))))))))))))))

pub for_stmt-returns-clause-shorter : goal.for_stmt-returns-clause-shorter
for_stmt-returns-clause-shorter t c = omega (arith, c.in_ok-index.ensures.shorter, c.in_ok-after.ensures.shorter, c.in_ok-low.ensures.ok.within, c.in_ok-after-2.ensures.shorter, c.in_ok-high.ensures.ok.within, c.in_ok-after-3.ensures.shorter, c.in_ok-body.ensures.ok.within, c.in_ok-rest.ensures.shorter)

pub for_stmt-stmts-requires : goal.for_stmt-stmts-requires
for_stmt-stmts-requires t c = (omega (arith, c.in_ok-index.ensures.shorter, c.in_ok-after.ensures.shorter, c.in_ok-low.ensures.ok.within, c.in_ok-after-2.ensures.shorter, c.in_ok-high.ensures.ok.within, c.in_ok-after-3.ensures.shorter), tt)

pub stmts-loop-alloc-init : goal.stmts-loop-alloc-init
stmts-loop-alloc-init t c = rw c.new-list.ensures.items (made (tree.none ∷ []) (λ ts. refl) (open_then (open_rule begun)))

pub stmts-returns-in_err-next-clause-err : goal.stmts-returns-in_err-next-clause-err
stmts-returns-in_err-next-clause-err t c = let p = err_from_is_err_and c.from_residual.result c.from_residual.ensures.1 in rw (p.1, p.2) (failed c.in_err-next.field-0.0 c.in_err-next.ensures.err (open_then (again (begins_then_stmt _ c.args.text.now c.loop-alloc.rest.now ∙ ap starts_stmt (sym c.next_kind.ensures) ∙ sym c.begins_stmt.ensures ∙ c.loop-alloc-test.true) c.loop-alloc.invariant)))

pub stmts-returns-in_err-next-clause-ok : goal.stmts-returns-in_err-next-clause-ok
stmts-returns-in_err-next-clause-ok t c = IfOk-from_err _ _ c.from_residual.ensures.0

pub stmts-loop-alloc-preserved : goal.stmts-loop-alloc-preserved
stmts-loop-alloc-preserved t c = rw c.in_ok-list.ensures.ok (made _ (λ ts. refl) (read c.in_ok-next.ensures.ok (open_then (again (begins_then_stmt _ c.args.text.now c.loop-alloc.rest.now ∙ ap starts_stmt (sym c.next_kind.ensures) ∙ sym c.begins_stmt.ensures ∙ c.loop-alloc-test.true) c.loop-alloc.invariant))))

pub stmts-returns-clause-ok : goal.stmts-returns-clause-ok
stmts-returns-clause-ok t c = no_more (begins_then_stmt _ c.args.text.now c.loop-alloc.rest.now ∙ ap starts_stmt (sym c.next_kind.ensures) ∙ sym c.begins_stmt.ensures ∙ c.loop-alloc-test.false) c.loop-alloc.invariant
