use Rattle.pr_flat.specs.Shape.{shapes_of}
use Rattle.pr_width.specs.Parts.{AreClosed}
use Rattle.pr_width.proofs.solver.next_open.Given as goal

abbrev pub invariant-loop-number : goal.invariant-loop-number
invariant-loop-number l = AreClosed (shapes_of l.flat.equations.items) l.fn.from l.number
