-- Which bytes are needed of what a net has made before a unit.
use Rattle.std.specs.Prelude.{ℕ, ◌*◌, ◌/◌, ◌%◌, ◌||◌, Bool, List, drop}
use Rattle.std.specs.List.{list_any, count_by, range_with_len}
use Rattle.pr_net.specs.Shape.{NetShape}
use Rattle.pr_net.specs.Nets.{cell_reads, is_output}
use Rattle.pr_cut_plan.specs.Marks.{MarksMore}

-- this unit or a later one reads the byte of this cell, or an output has it
abbrev pub is_needed : NetShape → ℕ → ℕ → ℕ → Bool
is_needed net from v j = list_any (list_any (cell_reads v j)) (drop from net.units) || is_output net v j

-- how many cells of the units before this one are needed so; cell j of unit v has the number 64 * v + j
abbrev pub kept_before : NetShape → ℕ → ℕ
kept_before net unit = count_by (λ k. is_needed net unit (k / 64) (k % 64)) (range_with_len 0 (64 * unit))

-- the marks by these numbers are set of the cells for which this holds, and the others are as they were
abbrev pub MarksCells : List Bool → List Bool → (ℕ → ℕ → Bool) → Type 0
MarksCells old new is = MarksMore old new (λ k. is (k / 64) (k % 64))
