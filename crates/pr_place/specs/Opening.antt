-- What the tables hold as a stripe opens: which groups wait for others, which may be placed, and in which stage each one stands.
use Rattle.std.specs.Prelude.{◌≡◌, ◌≢◌, ℕ, ◌+◌, ◌<◌, ◌≤◌, ◌⊎◌, ◌==◌, ◌&&◌, true, false, not, nat_lt, List, [], ◌∷◌, length, map, Option, None, Some, slice_index, slice_index_or, slice_set, replicate}
use Rattle.std.specs.List.{Contains, fold, sum_by}
use Rattle.std.specs.Option.{is_some}
use Rattle.pr_net.specs.Shape.{NetShape}
use Rattle.pr_place.specs.declared.candidates.Candidates.{Candidates}
use Rattle.pr_place.specs.declared.lookups.Tables.{Tables}
use Rattle.pr_place.specs.Tables.{readers_in}
use Rattle.pr_place.specs.Waits.{waits_of}
use Rattle.pr_place.specs.Greedy.{Seat, is_placed}
use Rattle.pr_place.specs.Registers.{Progress, count_of}
use Rattle.pr_place.specs.Candidates.{HasSets, IsCovered}
use Rattle.pr_place.specs.Tracking.{Tracks, ops_of, uses_of}

-- how often a group reads another: for each reading of a cell the group of that cell is counted
abbrev pub reads_of : List ℕ → ℕ → List ℕ → ℕ
reads_of owner h xs = count_of h (map (λ x. slice_index owner x) xs)

-- ---- the tables for what is placed
-- each group waits for so many readings
pub record Waits (net : NetShape) (owner : List ℕ) (ops : List (List ℕ)) (placed : List Seat) (waits : List ℕ) : Type 0 where
  pub long : length waits ≡ length net.groups
  pub is : (g : ℕ) → g < length net.groups → slice_index_or waits g 0 ≡ waits_of owner placed (slice_index_or ops g [])

-- the candidates are the groups that are not placed and wait for nothing, each with its class
pub record AreReady (net : NetShape) (class waits : List ℕ) (placed : List Seat) (ready : List ℕ) : Type 0 where
  pub ready_is : (g : ℕ) → g < length net.groups → nat_lt (slice_index_or ready g 0) 64 ≡ (not (is_placed placed g) && (slice_index_or waits g 0 == 0))
  pub class_is : (g : ℕ) → g < length net.groups → slice_index_or ready g 0 < 64 → slice_index_or ready g 0 ≡ slice_index_or class g 0

-- the stage of each group that is placed
pub record Staged (net : NetShape) (placed : List Seat) (stages : List (Option ℕ)) : Type 0 where
  pub long : length stages ≡ length net.groups
  pub stands : (t : Seat) → Contains placed t → slice_index_or stages t.group None ≡ Some t.stage
  pub placed_is : (g : ℕ) → g < length net.groups → is_placed placed g ≡ is_some (slice_index_or stages g None)

-- how many groups are not placed
unfoldable pub left_of : NetShape → List Seat → ℕ
left_of net placed = uses_of (replicate (length net.groups) (0 ∷ [])) placed 0

-- a stripe has received these groups, each once: what was placed before and is now, and the candidates before and now
pub record Received (net : NetShape) (class : List ℕ) (stage : ℕ) (start placed : List Seat) (before ready groups : List ℕ) : Type 0 where
  pub counted : (owner xs : List ℕ) → waits_of owner start xs ≡ waits_of owner placed xs + sum_by (λ h. reads_of owner h xs) groups
  pub left : left_of net start ≡ left_of net placed + length groups
  pub seats : (t : Seat) → Contains placed t → Contains start t ⊎ ((t.stage ≡ stage) × Contains groups t.group)
  pub stays : (t : Seat) → Contains start t → Contains placed t
  pub inside : (g : ℕ) → Contains groups g → (g < length net.groups) × (is_placed start g ≡ false) × (is_placed placed g ≡ true)
  pub candidates : (waits : List ℕ) → AreReady net class waits start before → AreReady net class waits placed ready

-- all of them as a stripe opens
pub record Opening (N P : ℕ) (net : NetShape) (tables : Tables) (s : Progress) (ready summary waits : List ℕ) (stages : List (Option ℕ)) (stage : ℕ) (placed : List Seat) : Type 0 where
  pub uses_long : length s.table.uses ≡ length s.spots
  pub ready_long : length ready ≡ length net.groups
  pub blocks : HasSets ready summary
  pub covered : IsCovered ready summary
  pub tracks : Tracks N P net tables.cells.first.items tables.cells.kept.items (ops_of tables.plans) stage placed s
  pub candidates : AreReady net tables.class.items waits placed ready
  pub waiting : Waits net tables.cells.owner.items (ops_of tables.plans) placed waits
  pub standing : Staged net placed stages

-- ---- how the next stripe opens
-- the stage of these groups is noted
abbrev pub noted : ℕ → List (Option ℕ) → List ℕ → List (Option ℕ)
noted stage stages groups = fold (λ stages g. slice_set stages g (Some stage)) stages groups

-- how often a group reads these
abbrev pub readings : Tables → ℕ → List ℕ → ℕ
readings tables g groups = sum_by (λ h. count_of g (readers_in tables h)) groups

-- the lists have an entry for each group, and each block's set has the classes of its candidates
pub record AreLists (class waits : List ℕ) (candidates : Candidates) : Type 0 where
  pub ready : length candidates.ready.items ≡ length waits
  pub classes : length class ≡ length waits
  pub small : (g : ℕ) → slice_index class g < 64
  pub blocks : HasSets candidates.ready.items candidates.summary.items
  pub covered : IsCovered candidates.ready.items candidates.summary.items

-- groups wait for less than before: those that wait for nothing now and did before are candidates, the others as they were
pub record Woken (class before ready now candidates : List ℕ) : Type 0 where
  pub less : (g : ℕ) → slice_index now g ≤ slice_index before g
  pub still : (g : ℕ) → (slice_index now g ≡ 0 → slice_index before g ≡ 0) → slice_index candidates g ≡ slice_index ready g
  pub woken : (g : ℕ) → slice_index before g ≢ 0 → slice_index now g ≡ 0 → slice_index candidates g ≡ slice_index class g
