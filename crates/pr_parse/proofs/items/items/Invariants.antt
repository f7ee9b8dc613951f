use Rattle.std.proofs.Common.{length, map, [], ◌∷◌}
use Rattle.pr_lang.specs.Grammar.{rule, many, make, Append, TheItem, AnyOf, Items, ◌⨟◌}
use Rattle.pr_lang.specs.Shape.{item_shape, listed}
use Rattle.pr_parse.specs.Reads.{Sofar}
use Rattle.pr_parse.proofs.items.items.Given as goal

abbrev pub invariant-loop-alloc : goal.invariant-loop-alloc
invariant-loop-alloc l = Sofar (rule (AnyOf Items)) l.text l.tokens l.rest (many (rule TheItem ⨟ make Append) ∷ []) (listed (map item_shape l.list.items) ∷ [])

abbrev pub decreases-loop-alloc : goal.decreases-loop-alloc
decreases-loop-alloc l = length l.rest
