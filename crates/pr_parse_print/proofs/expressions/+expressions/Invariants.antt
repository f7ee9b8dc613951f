use Rattle.std.proofs.Common.{map, take}
use Rattle.pr_lang.specs.Shape.{expr_shape, comma_listed}
use Rattle.pr_lang.specs.Printed.{spelling}
use Rattle.pr_parse_print.specs.Put.{IsPut}
use Rattle.pr_parse_print.proofs.expressions.+expressions.Given as goal

abbrev pub invariant-put_exprs-loop-i : goal.invariant-put_exprs-loop-i
invariant-put_exprs-loop-i l = IsPut l.fn.text.items (spelling (comma_listed (map expr_shape (take l.i l.list)))) l.text.items
