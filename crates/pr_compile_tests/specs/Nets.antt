-- A small net and where its units stand.
use Rattle.std.specs.Prelude.{ℕ, List, [], ◌∷◌}
use Rattle.pr_base.specs.declared.choices.Mode.TheVariants as Mode
use Rattle.pr_base.specs.declared.choices.Carry.TheVariants as Carry
use Rattle.pr_base.specs.declared.choices.Next.TheVariants as Next
use Rattle.pr_net.specs.declared.cells.Cell.{Cell}
use Rattle.pr_net.specs.declared.cells.Wire.{Wire}
use Rattle.pr_net.specs.declared.cells.WireBit.TheVariants as WireBit
use Rattle.pr_net.specs.declared.cells.Slice.{Slice}
use Rattle.pr_net.specs.Shape.{NetShape}
use Rattle.pr_place.specs.Placements.{HomeShape, PlacementShape}

-- a cell that looks up the bits of two wires
abbrev pub lookup : Wire → Wire → ℕ → Cell
lookup a hi table = record {
  a = a;
  hi = hi;
  lo = Wire.Const 0;
  shift = 0;
  c = WireBit.None;
  table = table;
  mode = Mode.Plain;
  cin = Carry.Zero;
  mask = 255;
  next = Next.Keep;
  init = 0;
}

-- a cell that shows a byte of the sample
abbrev pub input_cell : ℕ → Cell
input_cell place = lookup (Wire.Bus place) (Wire.Const 0) 170

-- `input a:8; input b:8; output y = a ^ b;`
unfoldable pub xor_net : NetShape
xor_net = record {
  units = (input_cell 0 ∷ []) ∷ (input_cell 1 ∷ []) ∷ (lookup (Wire.Of 0 0) (Wire.Of 1 0) 102 ∷ []) ∷ [];
  groups = (0 ∷ []) ∷ (1 ∷ []) ∷ (2 ∷ []) ∷ [];
  inputs = 8 ∷ 8 ∷ [];
  outputs = record { width = 8; slices = Slice.Of 2 0 ∷ [] } ∷ [];
}

abbrev pub home : ℕ → ℕ → List ℕ → HomeShape
home stage col regs = record { stage = stage; col = col; regs = regs }

unfoldable pub xor_placement : PlacementShape
xor_placement = record { stages = 2; homes = home 0 0 (1 ∷ []) ∷ home 0 1 (1 ∷ []) ∷ home 1 0 (2 ∷ []) ∷ [] }
