use Rattle.std.proofs.Common.{◌+◌, ◌*◌, ◌<◌, length, map, [], ◌∷◌}
use Rattle.pr_lang.specs.declared.tokens.Symbol.TheVariants.{Comma, OpenCurly, CloseCurly, Dots}
use Rattle.pr_lang.specs.Grammar.{rule, level, operand, many, token, make, mark, fixed, MakeBinary, MakeSlice, AppendAfterComma, ThePostfix, ListOf, Exprs, element, signs, ◌⨟◌}
use Rattle.pr_lang.specs.Word.{one_of}
use Rattle.pr_lang.specs.Shape.{expr_shape, comma_listed}
use Rattle.pr_parse.specs.Levels.{level_seen, rank_of, operand_rank_of}
use Rattle.pr_parse.specs.Reads.{Sofar}
use Rattle.pr_parse.proofs.expressions.+expressions.Given as goal

abbrev pub decreases-expr : goal.decreases-expr
decreases-expr l = 32 * length l.tokens.now + 17

abbrev pub decreases-chain : goal.decreases-chain
decreases-chain l = 32 * length l.tokens.now + rank_of l.at

abbrev pub decreases-operand : goal.decreases-operand
decreases-operand l = 32 * length l.tokens.now + operand_rank_of l.at

abbrev pub decreases-comparison : goal.decreases-comparison
decreases-comparison l = 32 * length l.tokens.now + 10

abbrev pub decreases-prefix : goal.decreases-prefix
decreases-prefix l = 32 * length l.tokens.now + 3

abbrev pub decreases-postfix : goal.decreases-postfix
decreases-postfix l = 32 * length l.tokens.now + 2

abbrev pub decreases-primary : goal.decreases-primary
decreases-primary l = 32 * length l.tokens.now + 1

abbrev pub decreases-grouped : goal.decreases-grouped
decreases-grouped l = 32 * length l.tokens.now

abbrev pub decreases-concatenation : goal.decreases-concatenation
decreases-concatenation l = 32 * length l.tokens.now

abbrev pub decreases-named : goal.decreases-named
decreases-named l = 32 * length l.tokens.now

abbrev pub decreases-exprs : goal.decreases-exprs
decreases-exprs l = 32 * length l.tokens.now + 18

abbrev pub decreases-arguments : goal.decreases-arguments
decreases-arguments l = 32 * length l.tokens.now + 19

abbrev pub invariant-chain-loop-op : goal.invariant-chain-loop-op
invariant-chain-loop-op l = Sofar (rule (level (level_seen l.at))) l.text l.tokens l.rest (many (token (one_of (signs (level_seen l.at))) ⨟ rule (operand (level_seen l.at)) ⨟ make MakeBinary) ∷ []) (expr_shape l.left ∷ [])

abbrev pub decreases-chain-loop-op : goal.decreases-chain-loop-op
decreases-chain-loop-op l = length l.rest

abbrev pub invariant-postfix-loop-alloc : goal.invariant-postfix-loop-alloc
invariant-postfix-loop-alloc l = Sofar (rule ThePostfix) l.text l.tokens l.rest (many (mark OpenCurly ⨟ fixed ⨟ mark Dots ⨟ fixed ⨟ mark CloseCurly ⨟ make MakeSlice) ∷ []) (expr_shape l.whole ∷ [])

abbrev pub decreases-postfix-loop-alloc : goal.decreases-postfix-loop-alloc
decreases-postfix-loop-alloc l = length l.rest

abbrev pub invariant-exprs-loop-alloc : goal.invariant-exprs-loop-alloc
invariant-exprs-loop-alloc l = record { some : 0 < length l.list.items; reads : Sofar (rule (ListOf Exprs)) l.text l.tokens l.rest (many (mark Comma ⨟ rule (element Exprs) ⨟ make AppendAfterComma) ∷ []) (comma_listed (map expr_shape l.list.items) ∷ []) }

abbrev pub decreases-exprs-loop-alloc : goal.decreases-exprs-loop-alloc
decreases-exprs-loop-alloc l = length l.rest
