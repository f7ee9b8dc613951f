-- What groups wait for.
use Rattle.std.specs.Prelude.{◌≡◌, ◌≢◌, ℕ, ◌+◌, ◌<◌, Bool, true, false, List, [], ◌∷◌, length, slice_index, slice_index_or}
use Rattle.std.specs.List.{Contains}
use Rattle.pr_net.specs.Shape.{NetShape}
use Rattle.pr_net.specs.Nets.{group_reads}
use Rattle.pr_place.specs.Greedy.{Seat, is_placed}
use Rattle.pr_place.specs.Tracking.{IsCellOf}

-- how many readings of a group are of groups that are not placed; each cell has its group
abbrev pub wait_of : Bool → ℕ
wait_of true = 0
wait_of false = 1

abbrev pub waits_of : List ℕ → List Seat → List ℕ → ℕ
waits_of owner placed [] = 0
waits_of owner placed (x ∷ xs) = wait_of (is_placed placed (slice_index owner x)) + waits_of owner placed xs

-- the cells' groups, and what is read is among what is counted
pub record Owned (net : NetShape) (first : List ℕ) (ops : List (List ℕ)) (owner : List ℕ) : Type 0 where
  pub owner_is : (g u i : ℕ) → IsCellOf net g u i → slice_index owner (slice_index_or first u 0 + i) ≡ g
  pub counted : (g h v j : ℕ) → g < length net.groups → IsCellOf net h v j → h ≢ g → group_reads net v j g ≡ true → Contains (slice_index_or ops g []) (slice_index_or first v 0 + j)
