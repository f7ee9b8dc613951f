-- What holds of the tables while a net is placed, stripe after stripe.
use Rattle.std.specs.Prelude.{◌≡◌, ℕ, suc, ◌+◌, ◌-◌, ◌^◌, ◌<◌, not, List, Option, None, length, map, slice_index, slice_index_or}
use Rattle.std.specs.List.{find, range_with_len}
use Rattle.std.specs.Option.{is_some, unwrap_or}
use Rattle.pr_net.specs.Shape.{NetShape, cells_of}
use Rattle.pr_place.specs.declared.candidates.Candidates.{Candidates}
use Rattle.pr_place.specs.declared.course.Course.{Course}
use Rattle.pr_place.specs.declared.lookups.Tables.{Tables}
use Rattle.pr_place.specs.Placements.{HomeShape}
use Rattle.pr_place.specs.Greedy.{Seat, placed_after, stripe}
use Rattle.pr_place.specs.Registers.{Progress, spotted}
use Rattle.pr_place.specs.Tracking.{Filling, ops_of}
use Rattle.pr_place.specs.Opening.{left_of, Waits, AreReady, Staged, Received, Opening}

-- while a stripe is filled, before the turn of a group, where all classes are tried
abbrev pub Fills : ℕ → ℕ → NetShape → Tables → Candidates → Progress → ℕ → ℕ → List Seat → Type 0
Fills N P net tables candidates s stage from placed =
    Filling N P net tables.cells.first.items tables.cells.kept.items tables.plans tables.class.items candidates.summary.items candidates.ready.items s stage (2 ^ 64 - 1) from placed

-- before the first turn, and after the last
abbrev pub IsOpen : ℕ → ℕ → NetShape → Tables → Candidates → Progress → ℕ → Type 0
IsOpen N P net tables candidates s stage = Fills N P net tables candidates s stage 0 (placed_after N P net stage)

abbrev pub IsFull : ℕ → ℕ → NetShape → Tables → Candidates → Progress → ℕ → Type 0
IsFull N P net tables candidates s stage = Fills N P net tables candidates s stage (length candidates.ready.items) (stripe N P net stage (placed_after N P net stage))

-- these are the groups that a stripe has received
abbrev pub HasReceived : ℕ → ℕ → NetShape → Tables → Candidates → Candidates → List ℕ → ℕ → Type 0
HasReceived N P net tables before now groups stage =
    Received net tables.class.items stage (placed_after N P net stage) (stripe N P net stage (placed_after N P net stage)) before.ready.items now.ready.items groups

-- so far each stripe has received a group
abbrev pub EachGrew : ℕ → ℕ → NetShape → ℕ → Type 0
EachGrew N P net stage = (s : ℕ) → s < stage → length (placed_after N P net s) < length (placed_after N P net (suc s))

-- a stripe opens
pub record Opens (N P : ℕ) (net : NetShape) (tables : Tables) (course : Course) : Type 0 where
  pub spots : length course.progress.spots ≡ length tables.cells.owner.items
  pub opening : Opening N P net tables course.progress course.candidates.ready.items course.candidates.summary.items course.waits.items course.stages.items course.stage (placed_after N P net course.stage)
  pub left : course.left ≡ left_of net (placed_after N P net course.stage)
  pub each : EachGrew N P net course.stage

-- it is filled, and has received these groups
pub record Filled (N P : ℕ) (net : NetShape) (tables : Tables) (course : Course) (groups : List ℕ) : Type 0 where
  pub spots : length course.progress.spots ≡ length tables.cells.owner.items
  pub filled : Fills N P net tables course.candidates course.progress course.stage (length course.candidates.ready.items) (placed_after N P net (suc course.stage))
  pub before : List ℕ
  pub ready : AreReady net tables.class.items course.waits.items (placed_after N P net course.stage) before
  pub received : Received net tables.class.items course.stage (placed_after N P net course.stage) (placed_after N P net (suc course.stage)) before course.candidates.ready.items groups
  pub waiting : Waits net tables.cells.owner.items (ops_of tables.plans) (placed_after N P net course.stage) course.waits.items
  pub standing : Staged net (placed_after N P net course.stage) course.stages.items
  pub left : course.left ≡ left_of net (placed_after N P net course.stage)
  pub each : EachGrew N P net course.stage

-- a stripe received no group though some are left; each group's stage stands in the list
pub record IsStuck (N P : ℕ) (net : NetShape) (stages : List (Option ℕ)) : Type 0 where
  pub stage : ℕ
  pub idle : placed_after N P net (suc stage) ≡ placed_after N P net stage
  pub standing : Staged net (placed_after N P net stage) stages
  pub some_left : 0 < left_of net (placed_after N P net stage)

-- the first group that has no stage
abbrev pub first_open : List (Option ℕ) → Option ℕ
first_open stages = find (λ g. not (is_some (slice_index_or stages g None))) (range_with_len 0 (length stages))

-- the home of a unit, by the tables
abbrev pub home_at : NetShape → Tables → Course → ℕ → HomeShape
home_at net tables course u = record {
  stage = unwrap_or (slice_index_or course.stages.items (slice_index tables.cells.owner.items (slice_index tables.cells.first.items u)) None) 0;
  col = (spotted course.progress.spots (slice_index tables.cells.first.items u)).0;
  regs = map (λ i. (spotted course.progress.spots (slice_index tables.cells.first.items u + i)).1) (range_with_len 0 (length (cells_of net u)));
}
