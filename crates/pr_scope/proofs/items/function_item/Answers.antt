use Rattle.std.proofs.Common.{◌∙◌, ap, rules}
use Rattle.pr_scope_names.specs.Names.{Known}
use Rattle.pr_scope.proofs.items.function_item.Goals as goal

pub set-requires-clause-free : goal.set-requires-clause-free
set-requires-clause-free c = ap (λ (k : Known). k c.args.name.now) c.in_ok-callee.ensures.same ∙ search rules
