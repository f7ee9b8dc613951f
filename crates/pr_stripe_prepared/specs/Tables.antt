-- When a column's rows are those of its table.
use Rattle.std.specs.Prelude.{◌≡◌, ℕ, slice_index}
use Rattle.pr_lanes.specs.Rows.{ones_where, half}
use Rattle.pr_stripe_prepared.specs.declared.stages.Table.{Table}

-- column k of the half that c chooses
pub record HasTable (t : Table) (k c table : ℕ) : Type 0 where
  pub t1 : slice_index t.t1 k ≡ ones_where (half table c) 1
  pub t2 : slice_index t.t2 k ≡ ones_where (half table c) 2
  pub t4 : slice_index t.t4 k ≡ ones_where (half table c) 4
  pub t8 : slice_index t.t8 k ≡ ones_where (half table c) 8
