use Rattle.std.proofs.Common.{◌∙◌, ap}
use Rattle.std.proofs.lemmas.Result.{on_ok_weaker, on_err_weaker}
use Rattle.pr_scope_names.specs.Names.{are_there, instances_in}
use Rattle.pr_scope_names.proofs.Maps.{read_of}
use Rattle.pr_scope_names.proofs.Placing.{there-with}
use Rattle.pr_scope_names.proofs.streams.Streams.add.Goals as goal

pub returns-clause-added : goal.returns-clause-added
returns-clause-added c =
    on_ok_weaker c.set.result (λ e. ap (read_of are_there) e ∙ there-with c.args.name.now c.args.place _ (instances_in c.args.self.now.instances)) c.set.ensures.set

pub returns-clause-same : goal.returns-clause-same
returns-clause-same c = on_err_weaker c.set.result (λ e. ap (read_of are_there) e) c.set.ensures.same
