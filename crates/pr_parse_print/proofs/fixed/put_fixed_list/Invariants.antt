use Rattle.std.proofs.Common.{map, take}
use Rattle.pr_lang.specs.Shape.{fixed_shape, comma_listed}
use Rattle.pr_lang.specs.Printed.{spelling}
use Rattle.pr_parse_print.specs.Put.{IsPut}
use Rattle.pr_parse_print.proofs.fixed.put_fixed_list.Given as goal

abbrev pub invariant-loop-i : goal.invariant-loop-i
invariant-loop-i l = IsPut l.fn.text.items (spelling (comma_listed (map fixed_shape (take l.i l.list)))) l.text.items
