-- The parts that rows are, by the factors of a product and by a shift.
use Rattle.std.specs.Prelude.{ℕ, ◌<◌, ◌+◌, List, length}
use Rattle.pr_net.specs.declared.cells.Slice.{Slice}
use Rattle.pr_net.specs.declared.cells.Cell.{Cell}
use Rattle.pr_cut_units.specs.Parts.{Making}
use Rattle.pr_cut_units.specs.Products.{row_cell, product_row, product}
use Rattle.pr_cut_units.specs.Shifts.{shift_cell, shift_row, shifted_by}
use Rattle.pr_cutmul.specs.declared.products.Factors.{Factors}
use Rattle.pr_cutmul.specs.declared.shifts.Shift.{Shift}

-- e bits of a product: the cell of slice i of row j, the row, and all rows
abbrev pub product_cell_of : Factors → ℕ → ℕ → List Slice → ℕ → Cell
product_cell_of factors e j before i = row_cell e factors.wa factors.a.now factors.b.now j before i

abbrev pub product_row_of : Factors → ℕ → ℕ → List Slice → Making
product_row_of factors e j before = product_row e factors.wa factors.a.now factors.b.now j before

abbrev pub product_of : Factors → ℕ → Making
product_of factors e = product e factors.a.now factors.wa factors.b.now factors.wb

-- and of a shift
abbrev pub shift_cell_of : Shift → ℕ → List Slice → ℕ → Cell
shift_cell_of shift j before i = shift_cell shift.left shift.w shift.by.now j before i

abbrev pub shift_row_of : Shift → ℕ → List Slice → Making
shift_row_of shift j before = shift_row shift.left shift.w shift.by.now j before

abbrev pub shift_of : Shift → List Slice → Making
shift_of shift x = shifted_by shift.left shift.w shift.by.now shift.bits x

-- these units and a part after them are more than a net may have
abbrev pub AreTooMany : List (List Cell) → Making → Type 0
AreTooMany units making = 32768 < length units + length (making (length units)).units
