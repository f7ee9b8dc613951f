use Rattle.std.proofs.Common.{◌≡◌, ◌+◌, max, drop, [], ◌∷◌}
use Rattle.pr_flat.specs.declared.equations.Operand.{Operand}
use Rattle.pr_flat.specs.Shape.{shapes_of}
use Rattle.pr_cut_units.specs.Reached.{reached, greatest_past, hold_count}
use Rattle.pr_cut_plan.proofs.reached.hold_count.Given as goal

abbrev pub invariant-loop-i : goal.invariant-loop-i
invariant-loop-i l = max l.most (greatest_past l.rec (drop (l.from + l.i) (shapes_of l.flat.equations.items)) (drop (l.from + l.i) (reached (shapes_of l.flat.equations.items) (Operand.Eq l.rec ∷ [])))) ≡ hold_count (shapes_of l.flat.equations.items) l.rec
