use Rattle.std.proofs.Common.{◌≡◌, drop, None}
use Rattle.pr_scope_names.specs.Names.{known_in, streams_in}
use Rattle.pr_scope.specs.Walk.{params_from}
use Rattle.pr_scope.proofs.items.locals_of.Given as goal

abbrev pub invariant-loop-param : goal.invariant-loop-param
invariant-loop-param l =
    params_from (drop l.param-index l.params) (known_in l.statics) (streams_in l.streams) ≡ params_from l.params (known_in l.statics) (λ _. None)
