use Rattle.std.proofs.Common.{◌≡◌, map, take}
use Rattle.std.specs.Vec.{vec_len}
use Rattle.pr_lens_find.specs.Widths.{extent_of}
use Rattle.pr_lens_find.proofs.widths.widths_of.Given as goal

abbrev pub invariant-loop-operand : goal.invariant-loop-operand
invariant-loop-operand l = record { count : vec_len l.all ≡ l.operand-index; each : l.all.items ≡ map (extent_of l.widths l.known) (take l.operand-index l.operands) }
