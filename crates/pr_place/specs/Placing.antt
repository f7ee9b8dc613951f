-- A plan that is placed.
use Rattle.std.specs.Prelude.{ℕ, List, Bool, Option}
use Rattle.pr_place.specs.declared.plans.GroupPlan.{GroupPlan}
use Rattle.pr_place.specs.Columns.{column_in}
use Rattle.pr_place.specs.Registers.{Progress, put_cells, put_all, CanPut, CanSettle}

-- the least column from which a plan's cells fit
abbrev pub column_for : Progress → GroupPlan → Option ℕ
column_for s plan = column_in s.taken s.table.room plan.needs.now

-- a plan's cells can be placed from a column on, and then what they read can be settled
abbrev pub CanPlace : ℕ → List Bool → Progress → GroupPlan → ℕ → Type 0
CanPlace P kept s plan col = CanPut P s plan.needs.now plan.cells.now col × CanSettle P kept (put_cells P s plan.needs.now plan.cells.now col) plan.reads.now

-- a plan is placed from a column on
abbrev pub placed_from : ℕ → List Bool → Progress → GroupPlan → ℕ → Progress
placed_from P kept s plan col = put_all P kept s plan.needs.now plan.cells.now plan.reads.now col
