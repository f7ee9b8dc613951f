use Rattle.std.proofs.Common.{◌∙◌, None, Some, codes, false}
use Rattle.pr_scope_names.specs.declared.names.Static.TheVariants.{Function}
use Rattle.pr_scope_names.specs.Names.{at_name, built_in, entries_in, horizon_in, indices_in}
use Rattle.pr_scope_names.proofs.Maps.{at_name_empty}
use Rattle.pr_scope_names.proofs.Seen.{first_seen, known_first}
use Rattle.pr_scope_names.proofs.names.Statics.new.Goals as goal

pub returns-clause-known : goal.returns-clause-known
unfolding built_in
returns-clause-known c =
    known_first (codes "signed") c.in_ok-name.name.items (record { item = None; what = Function (record { item = None; params = 1; turns = 0; depth = 0; past = false }) }) (at_name c.new-2.result) (indices_in c.put.new.self) (horizon_in c.put.new.self) (at_name c.new.result) (entries_in c.put.new.self) c.in_ok-name.ensures.items c.in_ok-put.ensures.horizon c.in_ok-put.ensures.indices c.in_ok-put.ensures.entries (at_name_empty c.new-2.result c.new-2.ensures.empty) (at_name_empty c.new.result c.new.ensures.empty)

pub returns-clause-first : goal.returns-clause-first
unfolding built_in
returns-clause-first c =
    first_seen (codes "signed") c.in_ok-name.name.items (Function (record { item = None; params = 1; turns = 0; depth = 0; past = false })) (Some 0) (at_name c.new.result) (entries_in c.put.new.self) c.in_ok-name.ensures.items c.in_ok-put.ensures.entries (at_name_empty c.new.result c.new.ensures.empty)

pub returns-clause-whole : goal.returns-clause-whole
unfolding built_in
returns-clause-whole c =
    first_seen (codes "signed") c.in_ok-name.name.items (Function (record { item = None; params = 1; turns = 0; depth = 0; past = false })) None (at_name c.new.result) (entries_in c.put.new.self) c.in_ok-name.ensures.items c.in_ok-put.ensures.entries (at_name_empty c.new.result c.new.ensures.empty)

pub returns-clause-indices : goal.returns-clause-indices
returns-clause-indices c = c.in_ok-put.ensures.indices ∙ at_name_empty c.new-2.result c.new-2.ensures.empty
