use Rattle.std.proofs.Common.{map, take}
use Rattle.pr_lang.specs.Shape.{stmt_shape, listed}
use Rattle.pr_lang.specs.Printed.{spelling}
use Rattle.pr_parse_print.specs.Put.{IsPut}
use Rattle.pr_parse_print.proofs.statements.+statements.Given as goal

abbrev pub invariant-put_stmts-loop-stmt : goal.invariant-put_stmts-loop-stmt
invariant-put_stmts-loop-stmt l = IsPut l.fn.text.items (spelling (listed (map stmt_shape (take l.stmt-index l.stmts)))) l.text.items
