use Rattle.std.proofs.Common.{◌≡◌, ◌++◌, drop}
use Rattle.pr_flat.specs.Shape.{shapes_of}
use Rattle.pr_flat.specs.Values.{input_widths}
use Rattle.pr_cut.proofs.nets.input_widths.Given as goal

abbrev pub invariant-loop-equation : goal.invariant-loop-equation
invariant-loop-equation l = l.all.items ++ input_widths (shapes_of (drop l.equation-index l.flat.equations.items)) ≡ input_widths (shapes_of l.flat.equations.items)
