-- Units in parts, each of which ends with the hold units of a recurrence.
use Rattle.std.specs.Prelude.{◌≡◌, ◌≤◌, ℕ, ◌+◌, ◌-◌, ◌&&◌, Bool, false, nat_le, List, [], ◌∷◌, ◌++◌, length, take, slice_index_or}
use Rattle.std.specs.List.{flat_map, range_with_len}
use Rattle.pr_net.specs.declared.cells.Cell.{Cell}
use Rattle.pr_cut_units.specs.Groups.{Holds, is_among, tied_from, group_of, groups_at}

-- the number of the unit after these hold units
abbrev pub end_of : Holds → ℕ
end_of holds = holds.first + holds.count

-- the part of these hold units begins with this unit, and they tie none before it
pub record IsPart (units : List (List Cell)) (from : ℕ) (holds : Holds) : Type 0 where
  pub ordered : from ≤ holds.first
  pub some : 1 ≤ holds.count
  pub within : end_of holds ≤ length units
  pub untied : tied_from holds [] 0 (take from units) ≡ []

-- parts from this unit on, one for each recurrence
abbrev pub AreParts : List (List Cell) → ℕ → List Holds → Type 0
AreParts units from [] = Unit {0}
AreParts units from (holds ∷ rest) = IsPart units from holds × AreParts units (end_of holds) rest

-- the marks, which begin with this unit, tell who is in a group
pub record AreMarked (from : ℕ) (marks : List Bool) (group : List ℕ) : Type 0 where
  pub is : (u : ℕ) → is_among u group ≡ (nat_le from u && slice_index_or marks (u - from) false)

-- the groups of a part: each unit by itself, but those of the recurrence's group
abbrev pub part_groups : List (List Cell) → ℕ → Holds → List (List ℕ)
part_groups units from holds = flat_map (groups_at (group_of units holds ∷ [])) (range_with_len from (end_of holds - from))

-- and those before the hold units
abbrev pub untied_groups : List (List Cell) → ℕ → Holds → List (List ℕ)
untied_groups units from holds = flat_map (groups_at (group_of units holds ∷ [])) (range_with_len from (holds.first - from))

-- the groups of parts from this unit on, and the end of the last one
abbrev pub parts_groups : List (List Cell) → ℕ → List Holds → List (List ℕ)
parts_groups units from [] = []
parts_groups units from (holds ∷ rest) = part_groups units from holds ++ parts_groups units (end_of holds) rest

abbrev pub parts_end : ℕ → List Holds → ℕ
parts_end from [] = from
parts_end from (holds ∷ rest) = parts_end (end_of holds) rest
