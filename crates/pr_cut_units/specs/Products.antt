-- Products, row by row.
use Rattle.std.specs.Prelude.{ℕ, ◌+◌, ◌-◌, ◌/◌, min, List, [], take}
use Rattle.pr_base.specs.Numbers.{slices_of}
use Rattle.pr_base.specs.declared.choices.Mode.{Mode}
use Rattle.pr_base.specs.declared.choices.Carry.{Carry}
use Rattle.pr_net.specs.declared.cells.Slice.{Slice}
use Rattle.pr_net.specs.declared.cells.Cell.{Cell}
use Rattle.pr_cut_units.specs.Cells.{plain, top, byte, bit_of, with_left, table_b_and_c}
use Rattle.pr_cut_units.specs.Parts.{Making, each, above, in_turn}
use Rattle.pr_cut_units.specs.declared.chains.Style.{Style}
use Rattle.pr_cut_units.specs.Chains.{chain}

-- the bits of row j of a product of e bits, where the first factor has w
abbrev pub row_width : ℕ → ℕ → ℕ → ℕ
row_width e w j = min e (w + j + 1)

-- the cell of slice i of row j: slice i of the row before, and, where bit j of b is 1, byte i of a shifted by j bits
abbrev pub row_cell : ℕ → ℕ → List Slice → List Slice → ℕ → List Slice → ℕ → Cell
row_cell e w a b j before i = with_left a j i (record plain { a = byte before i; c = bit_of b j; mode = Mode.Sum; table = table_b_and_c; mask = top (row_width e w j) i })

-- row j: the whole bytes below bit j stay, and the others are a chain
abbrev pub product_row : ℕ → ℕ → List Slice → List Slice → ℕ → List Slice → Making
product_row e w a b j before =
    above (take (j / 8) before) (chain Style.ByEntry Carry.Zero (each (slices_of (row_width e w j) - j / 8) (λ i. row_cell e w a b j before (j / 8 + i))))

-- e bits of the product of a, of wa bits, and b, of wb bits
abbrev pub product : ℕ → List Slice → ℕ → List Slice → ℕ → Making
product e a wa b wb = in_turn (product_row e wa a b) 0 (min wb e) []
