use Rattle.std.proofs.Common.{◌≡◌, drop}
use Rattle.pr_scope_names.specs.Names.{known_in}
use Rattle.pr_scope.specs.Statements.{stmts_past_of}
use Rattle.pr_scope.proofs.statements.+stmt_past.Given as goal

abbrev pub invariant-any_stmt_past-loop-stmt : goal.invariant-any_stmt_past-loop-stmt
invariant-any_stmt_past-loop-stmt l = stmts_past_of (drop l.stmt-index l.stmts) (known_in l.statics) ≡ stmts_past_of l.stmts (known_in l.statics)
