use Rattle.std.proofs.Common.{◌≡◌, ℕ, List, subst}
use Rattle.pr_scope_names.specs.Names.{at_name, unbind}
use Rattle.pr_scope_names.proofs.Maps.{at_name_updates}
use Rattle.pr_scope_names.proofs.names.Statics.unset_index.Goals as goal

pub returns-clause-indices : goal.returns-clause-indices
returns-clause-indices c =
    subst (λ (bs : List ℕ). at_name c.remove-was.new.self ≡ unbind bs (at_name c.args.self.now.indices)) c.as_bytes.ensures
    (at_name_updates c.as_bytes.result.now c.args.self.now.indices c.remove-was.new.self _ c.remove-was.ensures.updates)
