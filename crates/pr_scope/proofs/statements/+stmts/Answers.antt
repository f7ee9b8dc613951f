use Rattle.std.proofs.Common.{◌∙◌, ap, rules}
use Rattle.pr_scope_names.specs.declared.names.Static.TheVariants.{Index}
use Rattle.pr_scope_names.specs.Names.{Known}
use Rattle.pr_scope_names.proofs.Seen.{index_over, known_kept}
use Rattle.pr_scope.proofs.statements.+stmts.Goals as goal

pub walk_turn-returns-clause-names : goal.walk_turn-returns-clause-names
walk_turn-returns-clause-names t c =
    index_over c.args.statics.now c.set_index.new.self c.walk_stmts.new.statics c.unset_index.new.self c.args.one.now.index.now (Index c.args.one.now.at) c.requires c.in_ok-set_index.ensures.indices c.in_ok-set_index.ensures.entries c.in_ok-set_index.ensures.horizon c.in_ok-count-2.ensures.names c.unset_index.ensures.indices c.unset_index.ensures.entries c.unset_index.ensures.horizon

pub walk_turn-returns-clause-same : goal.walk_turn-returns-clause-same
walk_turn-returns-clause-same t c =
    known_kept c.args.statics.now c.unset_index.new.self (walk_turn-returns-clause-names t c)

pub walk_turns-walk_turn-requires : goal.walk_turns-walk_turn-requires
walk_turns-walk_turn-requires t c = (search rules, ap (λ (k : Known). k c.args.all.now.index.now) c.loop-at.invariant.same ∙ c.requires)
