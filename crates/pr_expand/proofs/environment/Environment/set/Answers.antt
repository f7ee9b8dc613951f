use Rattle.std.proofs.Common.{◌∙◌, ap}
use Rattle.std.proofs.lemmas.Result.{on_ok_weaker, on_err_weaker}
use Rattle.pr_scope_names.specs.Names.{instances_in}
use Rattle.pr_expand.specs.Code.{streams_by}
use Rattle.pr_expand.proofs.Placed.{with_place}
use Rattle.pr_expand.proofs.environment.Environment.set.Goals as goal

pub returns-clause-stands : goal.returns-clause-stands
returns-clause-stands c =
    on_ok_weaker c.set.result (λ e. ap streams_by e ∙ with_place c.args.name.now c.args.place c.args.standing (instances_in c.args.self.now.instances)) c.set.ensures.set

pub returns-clause-same : goal.returns-clause-same
returns-clause-same c = on_err_weaker c.set.result (λ e. ap streams_by e) c.set.ensures.same
