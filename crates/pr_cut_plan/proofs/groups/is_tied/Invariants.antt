use Rattle.std.proofs.Common.{◌≡◌, ℕ, List, drop}
use Rattle.std.specs.List.{list_any}
use Rattle.pr_cut_units.specs.Groups.{cell_wires, ties, is_tied}
use Rattle.pr_cut_plan.specs.Parts.{AreMarked}
use Rattle.pr_cut_plan.proofs.groups.is_tied.Given as goal

abbrev pub invariant-loop-cell : goal.invariant-loop-cell
invariant-loop-cell l = (group : List ℕ) → AreMarked l.from l.marks group → list_any (λ k. list_any (ties l.holds group) (cell_wires k)) (drop l.cell-index l.unit) ≡ is_tied l.holds group l.unit
