-- Parts of a net, made from a unit number on: their units, and the slices of the value that they compute.
use Rattle.std.specs.Prelude.{ℕ, zero, suc, ◌+◌, List, [], ◌∷◌, ◌++◌, length, map}
use Rattle.std.specs.List.{range_with_len}
use Rattle.pr_net.specs.declared.cells.Slice.{Slice}
use Rattle.pr_net.specs.declared.cells.Cell.{Cell}
use Rattle.pr_cut_units.specs.Cells.{slice_at}

pub record Part : Type 0 where
  pub units : List (List Cell)
  pub slices : List Slice

-- a part, by the number of its first unit
abbrev pub Making : Type 0
Making = ℕ → Part

-- these units, and after them those of a part
abbrev pub units_after : List (List Cell) → Making → List (List Cell)
units_after units making = units ++ (making (length units)).units

-- the slices of a part after these units
abbrev pub slices_after : List (List Cell) → Making → List Slice
slices_after units making = (making (length units)).slices

-- a list with an item for each number below n
abbrev pub each : {A : Type 0} → ℕ → (ℕ → A) → List A
each n f = map f (range_with_len 0 n)

-- no unit: slices that are there
abbrev pub kept : List Slice → Making
kept x u = record { units = []; slices = x }

-- one unit of n cells, each a slice
abbrev pub one_unit : ℕ → (ℕ → Cell) → Making
one_unit n cell u = record { units = each n cell ∷ []; slices = each n (λ i. Slice.Of u i) }

-- a part, and after it one that reads its slices
abbrev pub followed_by : Making → (List Slice → Making) → Making
followed_by first second u =
    let p = first u in
    let q = second p.slices (u + length p.units) in
    record { units = p.units ++ q.units; slices = q.slices }

-- a part with these slices below its own
abbrev pub above : List Slice → Making → Making
above low making u = let p = making u in record { units = p.units; slices = low ++ p.slices }

-- a part with just n slices, of which those that lack are 0
abbrev pub filled : ℕ → Making → Making
filled n making u = let p = making u in record { units = p.units; slices = each n (slice_at p.slices) }

-- n steps from step j on, each of which reads the slices of the step before
abbrev pub in_turn : (ℕ → List Slice → Making) → ℕ → ℕ → List Slice → Making
in_turn step j zero x u = kept x u
in_turn step j (suc n) x u = followed_by (step j x) (in_turn step (j + 1) n) u
