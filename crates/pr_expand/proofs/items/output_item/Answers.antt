use Rattle.std.proofs.Common.{◌≡◌, ◌∙◌, ◌++◌, [], ◌∷◌, None, ap}
use Rattle.std.proofs.lemmas.Result.{IfOk-from_err}
use Rattle.pr_expand_spec.specs.Making.{Expanded}
use Rattle.pr_expand_spec.specs.Expressions.{Visible, assigned}
use Rattle.pr_expand_spec.specs.Statements.{named}
use Rattle.pr_expand.specs.Code.{made_of, shapes_in, streams_in}
use Rattle.pr_expand.specs.Scopes.{visible_at}
use Rattle.pr_expand.proofs.Between.{scene_inside, visible_inside}
use Rattle.pr_expand.proofs.items.output_item.Goals as goal

pub make_assigned-requires : goal.make_assigned-requires
make_assigned-requires c = scene_inside c.args.items.now c.args.world.statics c.enter-frame.new.self c.args.number c.requires c.enter-frame.ensures.known c.enter-frame.ensures.entries c.enter-frame.ensures.inside

pub returns-clause-progress : goal.returns-clause-progress
returns-clause-progress c =
    let env = streams_in c.args.world.progress.env in
    let es = shapes_in c.args.world.progress.ledger in
    let seen = visible_inside c.args.items.now c.args.world.statics c.enter-frame.new.self c.args.number c.requires c.enter-frame.ensures.known c.enter-frame.ensures.inside in
    let made : made_of c.in_ok-made.made ≡ assigned c.args.value.now.width c.args.value.now.expr.now (visible_at c.args.items.now c.args.number) env es = c.in_ok-made.ensures.value ∙ ap (λ (v : Visible). assigned c.args.value.now.width c.args.value.now.expr.now v env es) seen in
    c.in_ok-progress.ensures.value ∙ ap (named c.args.name.now None env) made

pub returns-clause-outputs : goal.returns-clause-outputs
returns-clause-outputs c =
    let env = streams_in c.args.world.progress.env in
    let es = shapes_in c.args.world.progress.ledger in
    let seen = visible_inside c.args.items.now c.args.world.statics c.enter-frame.new.self c.args.number c.requires c.enter-frame.ensures.known c.enter-frame.ensures.inside in
    let made : made_of c.in_ok-made.made ≡ assigned c.args.value.now.width c.args.value.now.expr.now (visible_at c.args.items.now c.args.number) env es = c.in_ok-made.ensures.value ∙ ap (λ (v : Visible). assigned c.args.value.now.width c.args.value.now.expr.now v env es) seen in
    c.in-Ok.ensures.items ∙ ap (λ (m : Expanded). c.args.world.outputs.items ++ m.given.operand ∷ []) made

pub returns-in_err-made-clause-progress : goal.returns-in_err-made-clause-progress
returns-in_err-made-clause-progress c = IfOk-from_err _ _ c.from_residual.ensures.0

pub returns-in_err-made-clause-outputs : goal.returns-in_err-made-clause-outputs
returns-in_err-made-clause-outputs c = IfOk-from_err _ _ c.from_residual.ensures.0

pub returns-in_err-made-clause-names : goal.returns-in_err-made-clause-names
returns-in_err-made-clause-names c = IfOk-from_err _ _ c.from_residual.ensures.0

pub returns-in_err-progress-clause-progress : goal.returns-in_err-progress-clause-progress
returns-in_err-progress-clause-progress c = IfOk-from_err _ _ c.from_residual-in_err-progress.ensures.0

pub returns-in_err-progress-clause-outputs : goal.returns-in_err-progress-clause-outputs
returns-in_err-progress-clause-outputs c = IfOk-from_err _ _ c.from_residual-in_err-progress.ensures.0

pub returns-in_err-progress-clause-names : goal.returns-in_err-progress-clause-names
returns-in_err-progress-clause-names c = IfOk-from_err _ _ c.from_residual-in_err-progress.ensures.0
