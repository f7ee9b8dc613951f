-- What a function answers that makes units.
use Rattle.std.specs.Prelude.{ℕ, ◌≡◌, ◌+◌, ◌≤◌, List, length, Result, OnOk, IfOk}
use Rattle.std.specs.Global.{Vec}
use Rattle.pr_net.specs.declared.cells.Slice.{Slice}
use Rattle.pr_net.specs.declared.cells.Cell.{Cell}
use Rattle.pr_cut_units.specs.Parts.{Making, units_after, slices_after}

-- where memory served, the units are those before and then those of a part, which are so many at most, and the result is the
-- slices of the part
pub record Makes {E : Type 0} (most : ℕ) (making : Making) (old new : Vec (List Cell)) (result : Result (Vec Slice) E) : Type 0 where
  pub grows : OnOk result (length new.items ≤ length old.items + most)
  pub units : OnOk result (new.items ≡ units_after old.items making)
  pub slices : IfOk result (λ s. s.items ≡ slices_after old.items making)
