use Rattle.std.proofs.Common.{◌≡◌, ◌∙◌, ℕ, List, Option, None, Some, bytes_eq, subst, sym}
use Rattle.std.specs.Map.{update}
use Rattle.pr_scope_names.specs.declared.names.Static.{Static}
use Rattle.pr_scope_names.specs.Names.{at_name}
use Rattle.pr_scope_names.proofs.Maps.{at_name_updates}
use Rattle.pr_scope_names.proofs.names.Statics.swap_index.Goals as goal

pub returns-in-None-clause-indices : goal.returns-in-None-clause-indices
returns-in-None-clause-indices c =
    let old = at_name c.args.self.now.indices in
    subst (λ (o : Option Static). at_name c.remove.new.self ≡ (λ q. update bytes_eq old c.args.name.now o q)) (sym c.in-None.is)
    (subst (λ (bs : List ℕ). at_name c.remove.new.self ≡ (λ q. update bytes_eq old bs None q)) c.as_bytes.ensures
    (at_name_updates c.as_bytes.result.now c.args.self.now.indices c.remove.new.self _ c.remove.ensures.updates))

pub returns-in_ok-was-in-Some-clause-indices : goal.returns-in_ok-was-in-Some-clause-indices
returns-in_ok-was-in-Some-clause-indices c =
    let old = at_name c.args.self.now.indices in
    subst (λ (o : Option Static). at_name c.insert.new.self ≡ (λ q. update bytes_eq old c.args.name.now o q)) (sym c.in-Some.is)
    (subst (λ (bs : List ℕ). at_name c.insert.new.self ≡ (λ q. update bytes_eq old bs (Some c.in-Some.index) q)) (c.in_ok-name-in-Some.ensures.items ∙ c.as_bytes-in-Some.ensures)
    (at_name_updates c.in_ok-name-in-Some.name.items c.args.self.now.indices c.insert.new.self _ c.in_ok-was-in-Some.ensures.updates))
