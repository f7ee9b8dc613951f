use Rattle.std.proofs.Common.{◌≡◌, ◌++◌, drop, map, Ok}
use Rattle.pr_scope_names.specs.Outcomes.{all_of, and_then}
use Rattle.pr_scope_names.specs.Names.{known_in}
use Rattle.pr_scope_names.specs.Constants.{constant_of}
use Rattle.pr_scope.proofs.items.entries_of.Given as goal

abbrev pub invariant-loop-value : goal.invariant-loop-value
invariant-loop-value l =
    and_then (all_of (map (λ f. constant_of f (known_in l.statics)) (drop l.value-index l.values))) (λ ns. Ok (l.entries.items ++ ns))
    ≡ all_of (map (λ f. constant_of f (known_in l.statics)) l.values)
