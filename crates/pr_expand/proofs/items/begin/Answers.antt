use Rattle.pr_flat.specs.Shape.{shapes_of}
use Rattle.pr_expand.proofs.Between.{before_first, world_first}
use Rattle.pr_expand.proofs.items.begin.Goals as goal

pub returns-clause-at : goal.returns-clause-at
returns-clause-at c = λ items. before_first items c.in_ok-statics.statics c.in_ok-statics.ensures.outside c.in_ok-statics.ensures.indices c.in_ok-statics.ensures.first c.in_ok-statics.ensures.whole

pub returns-clause-value : goal.returns-clause-value
returns-clause-value c = λ items. world_first items _ _ (λ i. record { streams = c.new-env.ensures i; equations = shapes_of (c.no_equations-ledger.ensures i) }) c.new-2.ensures.items
