-- Groups of units that stand in one stage.
use Rattle.std.specs.Prelude.{ℕ, suc, ◌+◌, ◌-◌, ◌==◌, ◌&&◌, Bool, false, nat_le, nat_lt, if◌then◌else◌, List, [], ◌∷◌, ◌++◌, length, map, take, filter, slice_index}
use Rattle.std.specs.List.{list_any, flat_map, range_with_len}
use Rattle.pr_net.specs.declared.cells.Wire.{Wire}
use Rattle.pr_net.specs.declared.cells.WireBit.{WireBit}
use Rattle.pr_net.specs.declared.cells.Cell.{Cell}
use Rattle.pr_cut_units.specs.Parts.{each}

-- the hold units of a recurrence
pub record Holds : Type 0 where
  pub first : ℕ
  pub count : ℕ

-- the wires of a cell
abbrev pub bit_wires : WireBit → List Wire
bit_wires WireBit.None = []
bit_wires (WireBit.Of w k) = w ∷ []
bit_wires WireBit.CarryIn = []

abbrev pub cell_wires : Cell → List Wire
cell_wires k = k.a ∷ k.hi ∷ k.lo ∷ bit_wires k.c

abbrev pub is_among : ℕ → List ℕ → Bool
is_among u units = list_any (λ v. v == u) units

-- a wire that reads a state of the hold units, or a cell of a unit of the group
abbrev pub ties : Holds → List ℕ → Wire → Bool
ties holds group (Wire.Const k) = false
ties holds group (Wire.Of u i) = is_among u group
ties holds group (Wire.State u i) = nat_le holds.first u && nat_lt u (holds.first + holds.count)
ties holds group (Wire.Bus i) = false

abbrev pub is_tied : Holds → List ℕ → List Cell → Bool
is_tied holds group ks = list_any (λ k. list_any (ties holds group) (cell_wires k)) ks

-- the group so far, and those of these units, from number u on, that it ties
abbrev pub tied_from : Holds → List ℕ → ℕ → List (List Cell) → List ℕ
tied_from holds group u [] = group
tied_from holds group u (ks ∷ units) = tied_from holds (if is_tied holds group ks then group ++ u ∷ [] else group) (suc u) units

-- the group of a recurrence: units before its hold units that they tie, and the hold units
abbrev pub group_of : List (List Cell) → Holds → List ℕ
group_of units holds = tied_from holds [] 0 (take holds.first units) ++ each holds.count (λ j. holds.first + j)

-- the number of a group is that of its last unit
abbrev pub group_number : List ℕ → ℕ
group_number group = slice_index group (length group - 1)

-- the groups with number u: a unit that is in none of these groups is one by itself
abbrev pub groups_at : List (List ℕ) → ℕ → List (List ℕ)
groups_at groups u = if list_any (is_among u) groups then filter (λ g. group_number g == u) groups else (u ∷ []) ∷ []

-- all groups, by their numbers
abbrev pub groups_of : List (List Cell) → List Holds → List (List ℕ)
groups_of units holds = flat_map (groups_at (map (group_of units) holds)) (range_with_len 0 (length units))
