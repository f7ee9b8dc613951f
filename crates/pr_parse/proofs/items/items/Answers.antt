use Rattle.std.proofs.Common.{[], ◌∷◌, refl, sym, ap, ◌∙◌}
use Rattle.std.proofs.lemmas.Result.{IfOk-from_err, err_from_is_err_and}
use Rattle.pr_lang.specs.Tree as tree
use Rattle.pr_parse.proofs.Begins.{begins_then_item}
use Rattle.pr_parse.proofs.Steps.{begun, open_rule, open_then, again, no_more, made, read, failed}
use Rattle.pr_parse.specs.Kinds.{starts_item}
use Rattle.pr_parse.proofs.items.items.Goals as goal

pub loop-alloc-init : goal.loop-alloc-init
loop-alloc-init c = rw c.new-list.ensures.items (made (tree.none ∷ []) (λ ts. refl) (open_then (open_rule begun)))

pub returns-in_err-next-clause-err : goal.returns-in_err-next-clause-err
returns-in_err-next-clause-err c = let p = err_from_is_err_and c.from_residual.result c.from_residual.ensures.1 in rw (p.1, p.2) (failed c.in_err-next.field-0.0 c.in_err-next.ensures.err (open_then (again (begins_then_item _ c.args.text.now c.loop-alloc.rest.now ∙ ap starts_item (sym c.next_kind.ensures) ∙ sym c.begins_item.ensures ∙ c.loop-alloc-test.true) c.loop-alloc.invariant)))

pub returns-in_err-next-clause-ok : goal.returns-in_err-next-clause-ok
returns-in_err-next-clause-ok c = IfOk-from_err _ _ c.from_residual.ensures.0

pub loop-alloc-preserved : goal.loop-alloc-preserved
loop-alloc-preserved c = rw c.in_ok-list.ensures.ok (made _ (λ ts. refl) (read c.in_ok-next.ensures.ok (open_then (again (begins_then_item _ c.args.text.now c.loop-alloc.rest.now ∙ ap starts_item (sym c.next_kind.ensures) ∙ sym c.begins_item.ensures ∙ c.loop-alloc-test.true) c.loop-alloc.invariant))))

pub returns-clause-ok : goal.returns-clause-ok
returns-clause-ok c = no_more (begins_then_item _ c.args.text.now c.loop-alloc.rest.now ∙ ap starts_item (sym c.next_kind.ensures) ∙ sym c.begins_item.ensures ∙ c.loop-alloc-test.false) c.loop-alloc.invariant
