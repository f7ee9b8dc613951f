-- The tables of a net.
use Rattle.std.specs.Prelude.{◌≡◌, ◌≢◌, ℕ, ◌<◌, ◌+◌, ◌-◌, ◌^◌, Bool, false, List, [], Vec, length, map, replicate, slice_index, slice_index_or}
use Rattle.std.specs.List.{All}
use Rattle.std.specs.declared.alloc.Global.{Global}
use Rattle.pr_net.specs.Shape.{NetShape, units_of}
use Rattle.pr_place.specs.declared.celltables.CellTables.{CellTables}
use Rattle.pr_place.specs.declared.lookups.Tables.{Tables}
use Rattle.pr_place.specs.declared.plans.Plans.{Plans}
use Rattle.pr_place.specs.declared.starts.Start.{Start}
use Rattle.pr_place.specs.Lists.{joined}
use Rattle.pr_place.specs.Plans.{lists_of, count_of_lists}
use Rattle.pr_place.specs.Registers.{count_of}
use Rattle.pr_place.specs.Numbering.{IsNumbered, group_numbers, group_reads_of, needs_in, reads_from, marked_outputs}
use Rattle.pr_place.specs.Tracking.{IsCellOf, groups_of, cells_at, needs_at, ops_of, uses_of, needs_of, Fixed, Filling}
use Rattle.pr_place.specs.Waits.{waits_of, Owned}

-- the lists of a table of lists
abbrev pub kinds_of : List (Vec Bool Global) → List (List Bool)
kinds_of kinds = map (λ k. k.items) kinds

-- what a group reads, and who reads it
abbrev pub reads_in : Tables → ℕ → List ℕ
reads_in t g = slice_index_or (ops_of t.plans) g []

abbrev pub readers_in : Tables → ℕ → List ℕ
readers_in t g = slice_index_or (lists_of t.readers) g []

-- the tables of a net's cells
pub record AreCells (net : NetShape) (t : CellTables) : Type 0 where
  pub numbered : IsNumbered net.units t.first.items (length t.owner.items)
  pub owner : (g u i : ℕ) → IsCellOf net g u i → slice_index t.owner.items (slice_index t.first.items u + i) ≡ g
  pub kept : t.kept.items ≡ marked_outputs t.first.items (replicate (length t.owner.items) false) net.outputs
  pub uses_long : length t.uses.items ≡ length t.owner.items
  pub uses : (x : ℕ) → slice_index t.uses.items x ≡ uses_of (reads_from net.units t.first.items t.owner.items 0 net.groups) [] x

-- the plans of a net's groups by these tables: the numbers of the cells of a group's units, which of them need a register, and what the group reads
pub record ArePlans (net : NetShape) (t : CellTables) (plans : Plans) : Type 0 where
  pub long : groups_of plans ≡ length net.groups
  pub cells : (g : ℕ) → g < length net.groups → cells_at plans g ≡ group_numbers net.units t.first.items (units_of net g)
  pub needs : (g : ℕ) → g < length net.groups → needs_at plans g ≡ needs_in t.kept.items t.uses.items (group_numbers net.units t.first.items (units_of net g))
  pub reads : ops_of plans ≡ reads_from net.units t.first.items t.owner.items 0 net.groups
  pub all : plans.reads.items.items ≡ joined (ops_of plans)

-- the numbers of the cells of each group, and what each group reads, by its place
abbrev pub cells_by : NetShape → List ℕ → ℕ → List ℕ
cells_by net first g = group_numbers net.units first (units_of net g)

abbrev pub reads_by : NetShape → List ℕ → List ℕ → ℕ → List ℕ
reads_by net first owner g = group_reads_of net.units first owner g (units_of net g)

-- the tables of a net: who reads a group stands there as often as it reads a cell of it
pub record AreTables (N P : ℕ) (net : NetShape) (t : Tables) : Type 0 where
  pub fixed : Fixed N P net t.cells.first.items t.cells.kept.items t.plans t.class.items (length t.cells.owner.items)
  pub first_long : length t.cells.first.items ≡ length net.units
  pub owned : Owned net t.cells.first.items (ops_of t.plans) t.cells.owner.items
  pub uses_long : length t.cells.uses.items ≡ length t.cells.owner.items
  pub uses : (x : ℕ) → slice_index t.cells.uses.items x ≡ uses_of (ops_of t.plans) [] x
  pub alike : (g h : ℕ) → g < length net.groups → h < length net.groups → slice_index t.class.items g ≡ slice_index t.class.items h → slice_index t.class.items g ≢ 63 → needs_of net g ≡ needs_of net h
  pub readers_long : count_of_lists t.readers ≡ length net.groups
  pub readers : (g h : ℕ) → g < length net.groups → h < length net.groups → count_of h (readers_in t g) ≡ count_of g (map (λ x. slice_index t.cells.owner.items x) (reads_in t h))
  pub readers_there : (g : ℕ) → All (λ h. h < length net.groups) (readers_in t g)

-- how placing begins: nothing is placed, and each group waits for all that it reads
pub record IsStart (N P : ℕ) (net : NetShape) (t : Tables) (s : Start) : Type 0 where
  pub spots : length s.progress.spots ≡ length t.cells.owner.items
  pub waits_long : length s.waits.items ≡ length net.groups
  pub waits : (g : ℕ) → g < length net.groups → slice_index s.waits.items g ≡ waits_of t.cells.owner.items [] (reads_in t g)
  pub filling : Filling N P net t.cells.first.items t.cells.kept.items t.plans t.class.items s.summary.items s.ready.items s.progress 0 (2 ^ 64 - 1) 0 []
