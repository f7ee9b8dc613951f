use Rattle.std.proofs.Common.{◌≡◌, ◌∙◌, ℕ, List, subst}
use Rattle.pr_scope_names.specs.declared.names.Static.TheVariants.{Index}
use Rattle.pr_scope_names.specs.Names.{at_name, bind, indices_in, entries_in, what_before}
use Rattle.pr_scope_names.proofs.Maps.{at_name_updates}
use Rattle.pr_scope_names.proofs.Seen.{known_index}
use Rattle.pr_scope_names.proofs.names.Statics.set_index.Goals as goal

pub returns-clause-indices : goal.returns-clause-indices
returns-clause-indices c =
    subst (λ (bs : List ℕ). at_name c.insert.new.self ≡ bind bs (Index c.args.index) (at_name c.args.self.now.indices)) (c.in_ok-name.ensures.items ∙ c.as_bytes.ensures)
    (at_name_updates c.in_ok-name.name.items c.args.self.now.indices c.insert.new.self _ c.in_ok-insert.ensures.updates)

pub returns-clause-known : goal.returns-clause-known
returns-clause-known c =
    known_index c.args.name.now (Index c.args.index) (indices_in c.args.self.now) (at_name c.insert.new.self) (λ q. what_before c.args.self.now.horizon (entries_in c.args.self.now q))
    (subst (λ (bs : List ℕ). at_name c.insert.new.self ≡ bind bs (Index c.args.index) (at_name c.args.self.now.indices)) (c.in_ok-name.ensures.items ∙ c.as_bytes.ensures)
    (at_name_updates c.in_ok-name.name.items c.args.self.now.indices c.insert.new.self _ c.in_ok-insert.ensures.updates))
