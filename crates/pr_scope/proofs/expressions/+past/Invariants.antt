use Rattle.std.proofs.Common.{◌≡◌, drop, map}
use Rattle.pr_scope_names.specs.Names.{known_in}
use Rattle.pr_scope.specs.Expressions.{past_of, pasts_of}
use Rattle.pr_scope.proofs.expressions.+past.Given as goal

abbrev pub invariant-any_past-loop-part : goal.invariant-any_past-loop-part
invariant-any_past-loop-part l = pasts_of (map past_of (drop l.part-index l.parts)) (known_in l.statics) ≡ pasts_of (map past_of l.parts) (known_in l.statics)
