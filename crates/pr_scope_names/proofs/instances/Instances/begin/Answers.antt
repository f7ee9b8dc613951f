use Rattle.std.proofs.Common.{◌∙◌, cond, None, Some, ap}
use Rattle.pr_scope_names.specs.Names.{instances_in, placed_in, same_place}
use Rattle.pr_scope_names.proofs.Placing.{put-instance, written}
use Rattle.pr_scope_names.proofs.instances.Instances.begin.Goals as goal

pub returns-clause-set : goal.returns-clause-set
returns-clause-set g c =
    let is = written c.in_ok-key.key.items c.args.name.now c.args.self.now.map c.insert.new.self c.set.new.self (c.in_ok-key.ensures.items ∙ c.as_bytes.ensures) c.in_ok-insert.ensures.updates in
    put-instance c.args.name.now c.args.place c.args.what (instances_in c.args.self.now) _ None (placed_in c.set.new.self) c.requires is
    (λ q. c.in_ok-set.ensures.set q ∙ ap (cond (same_place c.args.place q) (Some c.args.what)) (c.new-places.ensures q))
