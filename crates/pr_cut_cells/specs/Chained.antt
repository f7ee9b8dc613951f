-- Chains as they are made: the open segment, and the place of the next cell.
use Rattle.std.specs.Prelude.{◌++◌, List, [], length}
use Rattle.pr_base.specs.declared.choices.Carry.{Carry}
use Rattle.pr_net.specs.declared.cells.Cell.{Cell}
use Rattle.pr_net.specs.declared.cells.Slice.{Slice}
use Rattle.pr_cut_units.specs.declared.chains.Style.{Style}
use Rattle.pr_cut_units.specs.Chains.{linked, segments, places, place_after}
use Rattle.pr_cut_cells.specs.declared.chains.Open.{Open}
use Rattle.pr_cut_cells.specs.declared.chains.ChainPlace.{ChainPlace}

-- these units, and after them those of a chain that goes on from this segment with cells and closes with others
abbrev pub with_segments : Style → List (List Cell) → Open → List Cell → List Cell → List (List Cell)
with_segments style units segment close cells = units ++ segments style (length units) segment.room segment.cells.items close cells

-- these units, and after them those of a whole chain
abbrev pub with_chain : Style → Carry → List (List Cell) → List Cell → List Cell → List (List Cell)
with_chain style first units close cells = units ++ segments style (length units) 4 [] close (linked first cells)

-- the slices of cells from this place on, and the slice of the cell after them
abbrev pub slices_from : Style → ChainPlace → List Cell → List Slice
slices_from style place cells = places style place.unit place.room place.cell cells

abbrev pub slice_behind : Style → ChainPlace → List Cell → Slice
slice_behind style place cells = place_after style place.unit place.room place.cell cells
