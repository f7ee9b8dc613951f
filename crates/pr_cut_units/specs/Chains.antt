-- Chains of cells, cut into units of at most four.
use Rattle.std.specs.Prelude.{ℕ, zero, suc, List, [], ◌∷◌, ◌++◌, length, map}
use Rattle.pr_base.specs.declared.choices.Mode.{Mode}
use Rattle.pr_base.specs.declared.choices.Carry.{Carry}
use Rattle.pr_net.specs.declared.cells.Slice.{Slice}
use Rattle.pr_net.specs.declared.cells.Wire.{Wire}
use Rattle.pr_net.specs.declared.cells.WireBit.{WireBit}
use Rattle.pr_net.specs.declared.cells.Cell.{Cell}
use Rattle.pr_cut_units.specs.declared.chains.Style.{Style}
use Rattle.pr_cut_units.specs.Cells.{plain, table_b, table_c}
use Rattle.pr_cut_units.specs.Parts.{Making}

-- the cells of a chain: the first has the stated carry-in, every other one Chain
abbrev pub linked : Carry → List Cell → List Cell
linked first [] = []
linked first (k ∷ ks) = record k { cin = first } ∷ map (λ (k : Cell). record k { cin = Carry.Chain }) ks

-- a cell that shows the carry by its table
abbrev pub carried : ℕ → Cell
carried table = record plain { c = WireBit.CarryIn; cin = Carry.Chain; table = table; mask = 1 }

-- the cell that ends every segment but the last
abbrev pub carry_cell : Cell
carry_cell = carried table_c

-- the entry cell: its carry-out is the carry that the wire shows
abbrev pub entry_cell : Wire → Cell
entry_cell w = record plain { a = w; hi = Wire.Const 255; mode = Mode.Sum; table = table_b; mask = 0 }

-- how a later segment begins, where this wire shows the carry: what stands before its first cell, and that cell; by a bit of C, or, where C is taken, by the entry cell
abbrev pub entry_of : Style → Wire → List Cell
entry_of Style.ByBit w = []
entry_of Style.ByEntry w = entry_cell w ∷ []

abbrev pub taking : Style → Wire → Cell → Cell
taking Style.ByBit w k = record k { c = WireBit.Of w 0; cin = Carry.FromC }
taking Style.ByEntry w k = k

abbrev pub entries : Style → ℕ
entries Style.ByBit = 0
entries Style.ByEntry = 1

-- the units of a chain's cells, where unit u has these cells already and takes so many more; the last one closes with these
abbrev pub segments : Style → ℕ → ℕ → List Cell → List Cell → List Cell → List (List Cell)
segments s u room cells close [] = (cells ++ close) ∷ []
segments s u zero cells close (k ∷ ks) =
    (cells ++ carry_cell ∷ []) ∷ segments s (suc u) 3 (entry_of s (Wire.Of u (length cells)) ++ taking s (Wire.Of u (length cells)) k ∷ []) close ks
segments s u (suc room) cells close (k ∷ ks) = segments s u room (cells ++ k ∷ []) close ks

-- the slices of these cells, where the next one stands at this place of unit u
abbrev pub places : Style → ℕ → ℕ → ℕ → List Cell → List Slice
places s u room place [] = []
places s u zero place (k ∷ ks) = Slice.Of (suc u) (entries s) ∷ places s (suc u) 3 (suc (entries s)) ks
places s u (suc room) place (k ∷ ks) = Slice.Of u place ∷ places s u room (suc place) ks

-- the slice of the cell after them
abbrev pub place_after : Style → ℕ → ℕ → ℕ → List Cell → Slice
place_after s u room place [] = Slice.Of u place
place_after s u zero place (k ∷ ks) = place_after s (suc u) 3 (suc (entries s)) ks
place_after s u (suc room) place (k ∷ ks) = place_after s u room (suc place) ks

-- a chain whose cells are slices
abbrev pub chain : Style → Carry → List Cell → Making
chain s first cells u = record { units = segments s u 4 [] [] (linked first cells); slices = places s u 4 0 cells }

-- a chain of which the cell that closes it, with this table, is the one slice
abbrev pub closed_chain : Carry → ℕ → List Cell → Making
closed_chain first table cells u = record {
  units = segments Style.ByBit u 4 [] (carried table ∷ []) (linked first cells);
  slices = place_after Style.ByBit u 4 0 cells ∷ [];
}
