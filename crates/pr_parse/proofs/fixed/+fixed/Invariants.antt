use Rattle.std.proofs.Common.{◌+◌, ◌*◌, length, [], ◌∷◌}
use Rattle.pr_lang.specs.Grammar.{rule, level, FixedSums, FixedProducts, TheFixedPrimary, many, token, make, MakeBinary, signs, ◌⨟◌}
use Rattle.pr_lang.specs.Word.{one_of}
use Rattle.pr_lang.specs.Shape.{fixed_shape}
use Rattle.pr_parse.specs.Reads.{Sofar}
use Rattle.pr_parse.proofs.fixed.+fixed.Given as goal

abbrev pub decreases-fixed : goal.decreases-fixed
decreases-fixed l = 8 * length l.tokens.now + 3

abbrev pub decreases-product : goal.decreases-product
decreases-product l = 8 * length l.tokens.now + 2

abbrev pub decreases-primary : goal.decreases-primary
decreases-primary l = 8 * length l.tokens.now + 1

abbrev pub decreases-grouped : goal.decreases-grouped
decreases-grouped l = 8 * length l.tokens.now

abbrev pub decreases-index : goal.decreases-index
decreases-index l = 8 * length l.tokens.now + 4

abbrev pub invariant-fixed-loop-op : goal.invariant-fixed-loop-op
invariant-fixed-loop-op l = Sofar (rule (level FixedSums)) l.text l.tokens l.rest (many (token (one_of (signs FixedSums)) ⨟ rule (level FixedProducts) ⨟ make MakeBinary) ∷ []) (fixed_shape l.left ∷ [])

abbrev pub decreases-fixed-loop-op : goal.decreases-fixed-loop-op
decreases-fixed-loop-op l = length l.rest

abbrev pub invariant-product-loop-op : goal.invariant-product-loop-op
invariant-product-loop-op l = Sofar (rule (level FixedProducts)) l.text l.tokens l.rest (many (token (one_of (signs FixedProducts)) ⨟ rule TheFixedPrimary ⨟ make MakeBinary) ∷ []) (fixed_shape l.left ∷ [])

abbrev pub decreases-product-loop-op : goal.decreases-product-loop-op
decreases-product-loop-op l = length l.rest
