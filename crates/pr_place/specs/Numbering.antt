-- Numbers of cells, unit by unit, and what groups have and read by these numbers.
use Rattle.std.specs.Prelude.{◌≡◌, ℕ, suc, ◌+◌, ◌==◌, ◌<◌, ◌^◌, ◌||◌, List, [], ◌∷◌, ◌++◌, length, map, nat_lt, replicate, slice_index, slice_index_or, slice_set, true, false, if◌then◌else◌, Bool}
use Rattle.std.specs.List.{flat_map, fold, sum_by, range_with_len}
use Rattle.pr_net.specs.declared.cells.Cell.{Cell}
use Rattle.pr_net.specs.declared.cells.Slice.{Slice}
use Rattle.pr_net.specs.declared.cells.Wire.{Wire}
use Rattle.pr_net.specs.declared.cells.WireBit.{WireBit}
use Rattle.pr_net.specs.Shape.{OutputShape}
use Rattle.pr_place.specs.Registers.{count_of}

-- the number of the first cell of each unit, the first of all being this
abbrev pub firsts_from : ℕ → List (List Cell) → List ℕ
firsts_from n [] = []
firsts_from n (ks ∷ units) = n ∷ firsts_from (n + length ks) units

abbrev pub cells_in : List (List Cell) → ℕ
cells_in units = sum_by (λ ks. length ks) units

-- the numbers of the cells of a unit, and of units
abbrev pub unit_numbers : List (List Cell) → List ℕ → ℕ → List ℕ
unit_numbers units first u = range_with_len (slice_index first u) (length (slice_index_or units u []))

abbrev pub group_numbers : List (List Cell) → List ℕ → List ℕ → List ℕ
group_numbers units first us = flat_map (unit_numbers units first) us

-- the numbers of the cells of other groups than this that are read, each as often as it is
abbrev pub wire_numbers : List ℕ → List ℕ → ℕ → Wire → List ℕ
wire_numbers first owner g (Wire.Const k) = []
wire_numbers first owner g (Wire.Of u i) = if slice_index owner (slice_index first u + i) == g then [] else (slice_index first u + i) ∷ []
wire_numbers first owner g (Wire.State u i) = []
wire_numbers first owner g (Wire.Bus i) = []

abbrev pub bit_numbers : List ℕ → List ℕ → ℕ → WireBit → List ℕ
bit_numbers first owner g WireBit.None = []
bit_numbers first owner g (WireBit.Of wire place) = wire_numbers first owner g wire
bit_numbers first owner g WireBit.CarryIn = []

abbrev pub cell_numbers : List ℕ → List ℕ → ℕ → Cell → List ℕ
cell_numbers first owner g k = wire_numbers first owner g k.a ++ (wire_numbers first owner g k.hi ++ (wire_numbers first owner g k.lo ++ bit_numbers first owner g k.c))

abbrev pub unit_reads_of : List ℕ → List ℕ → ℕ → List Cell → List ℕ
unit_reads_of first owner g ks = flat_map (cell_numbers first owner g) ks

abbrev pub group_reads_of : List (List Cell) → List ℕ → List ℕ → ℕ → List ℕ → List ℕ
group_reads_of units first owner g us = flat_map (λ u. unit_reads_of first owner g (slice_index_or units u [])) us

-- the cell that a wire names has a number below a bound
abbrev pub IsWireBelow : List ℕ → ℕ → Wire → Type 0
IsWireBelow first cells (Wire.Const k) = Unit {0}
IsWireBelow first cells (Wire.Of u i) = (u < length first) × (slice_index first u + i < cells)
IsWireBelow first cells (Wire.State u i) = Unit {0}
IsWireBelow first cells (Wire.Bus i) = Unit {0}

abbrev pub IsBitBelow : List ℕ → ℕ → WireBit → Type 0
IsBitBelow first cells WireBit.None = Unit {0}
IsBitBelow first cells (WireBit.Of wire place) = IsWireBelow first cells wire
IsBitBelow first cells WireBit.CarryIn = Unit {0}

pub record IsCellBelow (first : List ℕ) (cells : ℕ) (k : Cell) : Type 0 where
  pub a : IsWireBelow first cells k.a
  pub hi : IsWireBelow first cells k.hi
  pub lo : IsWireBelow first cells k.lo
  pub c : IsBitBelow first cells k.c

abbrev pub IsSliceBelow : List ℕ → ℕ → Slice → Type 0
IsSliceBelow first cells (Slice.Const k) = Unit {0}
IsSliceBelow first cells (Slice.Of u i) = (u < length first) × (slice_index first u + i < cells)
IsSliceBelow first cells (Slice.State u i) = Unit {0}

-- numbers of the cells of a net, each below this bound
pub record IsNumbered (units : List (List Cell)) (first : List ℕ) (cells : ℕ) : Type 0 where
  pub first_is : first ≡ firsts_from 0 units
  pub cells_is : cells ≡ cells_in units
  pub few : cells < 2 ^ 63

-- a cell's mark, those of the slices of an output, and of outputs
abbrev pub marked : List ℕ → List Bool → Slice → List Bool
marked first kept (Slice.Const k) = kept
marked first kept (Slice.Of u i) = slice_set kept (slice_index first u + i) true
marked first kept (Slice.State u i) = kept

abbrev pub marked_all : List ℕ → List Bool → List Slice → List Bool
marked_all first kept slices = fold (marked first) kept slices

abbrev pub marked_outputs : List ℕ → List Bool → List OutputShape → List Bool
marked_outputs first kept outputs = fold (λ kept o. marked_all first kept o.slices) kept outputs

-- the group of these cells is noted
abbrev pub owned_by : ℕ → List ℕ → List ℕ → List ℕ
owned_by g owner cells = fold (λ owner x. slice_set owner x g) owner cells

-- what each of these groups reads, the first being this
abbrev pub reads_from : List (List Cell) → List ℕ → List ℕ → ℕ → List (List ℕ) → List (List ℕ)
reads_from units first owner g [] = []
reads_from units first owner g (us ∷ groups) = group_reads_of units first owner g us ∷ reads_from units first owner (suc g) groups

-- a cell that an output has or that is read
abbrev pub is_needed : List Bool → List ℕ → ℕ → Bool
is_needed kept uses x = slice_index_or kept x false || nat_lt 0 (slice_index uses x)

abbrev pub needs_in : List Bool → List ℕ → List ℕ → List Bool
needs_in kept uses cells = map (is_needed kept uses) cells

-- who reads a group, each as often as it does, by what each group from one on reads
abbrev pub readers_from : List ℕ → ℕ → ℕ → List (List ℕ) → List ℕ
readers_from owner g h [] = []
readers_from owner g h (reads ∷ ops) = replicate (count_of g (map (λ x. slice_index owner x) reads)) h ++ readers_from owner g (suc h) ops

-- units whose cells can be numbered, and whose readings can be listed
pub record CanNumber (units : List (List Cell)) (first us : List ℕ) : Type 0 where
  pub long : length first ≡ length units
  pub there : (k : ℕ) → k < length us → slice_index us k < length units
  pub small : (u : ℕ) → slice_index first u + length (slice_index_or units u []) < 2 ^ 64

pub record CanRead (units : List (List Cell)) (first : List ℕ) (cells : ℕ) (us : List ℕ) : Type 0 where
  pub there : (k : ℕ) → k < length us → slice_index us k < length units
  pub below : (u i : ℕ) (d : Cell) → u < length units → i < length (slice_index_or units u []) → IsCellBelow first cells (slice_index_or (slice_index_or units u []) i d)
