use Rattle.std.proofs.Common.{◌∙◌, ap, sym}
use Rattle.std.proofs.lemmas.Result.{IfOk-from_err, err_from_is_err_and}
use Rattle.pr_lang.specs.declared.trees.Expr.{Expr}
use Rattle.pr_scope_names.specs.Names.{known_in, streams_in}
use Rattle.pr_scope.specs.Expressions.{walk_of}
use Rattle.pr_scope.proofs.Walks.{call_law, call_met, call_stopped}
use Rattle.pr_scope.proofs.expressions.+walk.Goals as goal

pub walk-returns-in_err-count-in-Call-clause-value : goal.walk-returns-in_err-count-in-Call-clause-value
walk-returns-in_err-count-in-Call-clause-value t c =
    let law = ap (λ (e : Expr). walk_of e (known_in c.args.statics.now) (streams_in c.args.streams.now) c.args.scene.now c.args.count) c.in-Call.is ∙ call_law c.in-Call.name c.in-Call.args (known_in c.args.statics.now) (streams_in c.args.streams.now) c.args.scene.now c.args.count in
    let p = err_from_is_err_and c.from_residual-in_err-count-in-Call.result c.from_residual-in_err-count-in-Call.ensures.1 in
    rw (p.1, p.2) ((call_stopped (known_in c.args.statics.now) (streams_in c.args.streams.now) c.args.scene.now c.args.count c.in-Call.name c.deref-in-Call.result.now c.in-Call.args.items c.in_err-count-in-Call.field-0.0 c.deref-in-Call.ensures.value c.in_err-count-in-Call.ensures.value) ∙ sym law)

pub walk-returns-in_ok-count-in-Call-clause-value : goal.walk-returns-in_ok-count-in-Call-clause-value
walk-returns-in_ok-count-in-Call-clause-value t c =
    let law = ap (λ (e : Expr). walk_of e (known_in c.args.statics.now) (streams_in c.args.streams.now) c.args.scene.now c.args.count) c.in-Call.is ∙ call_law c.in-Call.name c.in-Call.args (known_in c.args.statics.now) (streams_in c.args.streams.now) c.args.scene.now c.args.count in
    (call_met (known_in c.args.statics.now) (streams_in c.args.streams.now) c.args.scene.now c.args.count c.in_ok-count-in-Call.count c.in-Call.name c.deref-in-Call.result.now c.in-Call.args.items c.len.result c.call.result c.deref-in-Call.ensures.value c.in_ok-count-in-Call.ensures.value (c.len.ensures ∙ sym c.deref-in-Call.ensures.len) c.call.ensures.value) ∙ sym law

pub walk-returns-in_err-count-in-Slice-clause-grows : goal.walk-returns-in_err-count-in-Slice-clause-grows
walk-returns-in_err-count-in-Slice-clause-grows t c = IfOk-from_err _ _ c.from_residual.ensures.0

pub walk-returns-in_err-count-in-Binary-clause-grows : goal.walk-returns-in_err-count-in-Binary-clause-grows
walk-returns-in_err-count-in-Binary-clause-grows t c = IfOk-from_err _ _ c.from_residual-in_err-count-in-Binary.ensures.0

pub walk-returns-in_err-count-in-Choose-clause-grows : goal.walk-returns-in_err-count-in-Choose-clause-grows
walk-returns-in_err-count-in-Choose-clause-grows t c = IfOk-from_err _ _ c.from_residual-in_err-count-in-Choose.ensures.0

pub walk-returns-in_err-count-in-Choose-2-clause-grows : goal.walk-returns-in_err-count-in-Choose-2-clause-grows
walk-returns-in_err-count-in-Choose-2-clause-grows t c = IfOk-from_err _ _ c.from_residual-in_err-count-in-Choose-2.ensures.0
