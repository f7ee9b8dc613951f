use Rattle.std.proofs.Common.{◌∙◌, Some}
use Rattle.std.proofs.lemmas.Result.{on_ok_weaker}
use Rattle.pr_scope_names.specs.Names.{entries_in, horizon_in, indices_in}
use Rattle.pr_scope_names.proofs.Seen.{known_set}
use Rattle.pr_scope_names.proofs.names.Statics.set.Goals as goal

pub returns-clause-known : goal.returns-clause-known
returns-clause-known c =
    on_ok_weaker c.put.result
    (λ e. known_set c.args.name.now c.in_ok-name.name.items (record { item = Some c.args.item; what = c.args.what }) (indices_in c.args.self.now) (indices_in c.put.new.self) (horizon_in c.args.self.now) (horizon_in c.put.new.self) (entries_in c.args.self.now) (entries_in c.put.new.self) (c.in_ok-name.ensures.items ∙ c.as_bytes.ensures) c.requires.outside c.put.ensures.horizon c.put.ensures.indices e c.requires.free)
    c.put.ensures.entries
