use Rattle.std.proofs.Common.{◌+◌, ◌*◌, length, map, [], ◌∷◌}
use Rattle.pr_lang.specs.Grammar.{rule, many, make, Append, TheStmt, AnyOf, Stmts, ◌⨟◌}
use Rattle.pr_lang.specs.Shape.{stmt_shape, listed}
use Rattle.pr_parse.specs.Reads.{Sofar}
use Rattle.pr_parse.proofs.statements.+statements.Given as goal

abbrev pub decreases-stmt : goal.decreases-stmt
decreases-stmt l = 8 * length l.tokens.now + 1

abbrev pub decreases-for_stmt : goal.decreases-for_stmt
decreases-for_stmt l = 8 * length l.tokens.now

abbrev pub decreases-stmts : goal.decreases-stmts
decreases-stmts l = 8 * length l.tokens.now + 2

abbrev pub invariant-stmts-loop-alloc : goal.invariant-stmts-loop-alloc
invariant-stmts-loop-alloc l = Sofar (rule (AnyOf Stmts)) l.text l.tokens l.rest (many (rule TheStmt ⨟ make Append) ∷ []) (listed (map stmt_shape l.list.items) ∷ [])

abbrev pub decreases-stmts-loop-alloc : goal.decreases-stmts-loop-alloc
decreases-stmts-loop-alloc l = length l.rest
