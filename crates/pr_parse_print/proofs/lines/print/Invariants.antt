use Rattle.std.proofs.Common.{◌≡◌, map, take}
use Rattle.pr_lang.specs.Shape.{item_shape, listed}
use Rattle.pr_lang.specs.Printed.{lines}
use Rattle.pr_parse_print.proofs.lines.print.Given as goal

abbrev pub invariant-loop-item : goal.invariant-loop-item
invariant-loop-item l = l.text.items ≡ lines (listed (map item_shape (take l.item-index l.item-items)))
