use Rattle.std.proofs.Common.{◌<◌, length, map, [], ◌∷◌}
use Rattle.pr_lang.specs.declared.tokens.Symbol.TheVariants.{Comma}
use Rattle.pr_lang.specs.Grammar.{rule, many, mark, make, ListOf, Params, element, AppendAfterComma, ◌⨟◌}
use Rattle.pr_lang.specs.Shape.{param_shape, comma_listed}
use Rattle.pr_parse.specs.Reads.{Sofar}
use Rattle.pr_parse.proofs.items.some_params.Given as goal

abbrev pub invariant-loop-alloc : goal.invariant-loop-alloc
invariant-loop-alloc l = record { some : 0 < length l.list.items; reads : Sofar (rule (ListOf Params)) l.text l.tokens l.rest (many (mark Comma ⨟ rule (element Params) ⨟ make AppendAfterComma) ∷ []) (comma_listed (map param_shape l.list.items) ∷ []) }

abbrev pub decreases-loop-alloc : goal.decreases-loop-alloc
decreases-loop-alloc l = length l.rest
