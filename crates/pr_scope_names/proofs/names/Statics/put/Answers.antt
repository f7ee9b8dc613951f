use Rattle.pr_scope_names.proofs.Maps.{at_name_updates}
use Rattle.pr_scope_names.proofs.names.Statics.put.Goals as goal

pub returns-clause-entries : goal.returns-clause-entries
returns-clause-entries c = at_name_updates c.args.name.items c.args.self.now.entries c.insert.new.self _ c.in_ok-insert.ensures.updates
