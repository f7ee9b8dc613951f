-- The bytes that the net of flat equations shows, sample by sample.
use Rattle.std.specs.Prelude.{◌≡◌, ℕ, true, List, map, slice_index}
use Rattle.std.specs.List.{range_with_len}
use Rattle.pr_base.specs.Numbers.{byte_at, slices_of}
use Rattle.pr_base.specs.Rows.{row_bytes}
use Rattle.pr_flat.specs.declared.equations.Operand.{Operand}
use Rattle.pr_flat.specs.Shape.{EquationShape, EachEquation}
use Rattle.pr_flat.specs.Values.{list_of, output_list}
use Rattle.pr_flat.specs.Widths.{operand_width}
use Rattle.pr_net.specs.declared.cells.Slice.{Slice}
use Rattle.pr_net.specs.Shape.{OutputShape, NetShape}
use Rattle.pr_net.specs.Runs.{slice_list}
use Rattle.pr_cut_units.specs.Equations.{plan_of, has_units}
use Rattle.pr_cut_units.specs.Nets.{net_of}
use Rattle.pr_cut_laws.specs.Laws.{cut_value}

-- the bytes of these numbers of w bits: the list of their least bytes, then that of their next bytes, and so on
abbrev pub byte_lists : ℕ → List ℕ → List (List ℕ)
byte_lists w numbers = map (λ i. map (λ n. byte_at n i) numbers) (range_with_len 0 (slices_of w))

-- the lists of these slices of a net, on samples with a number for each input
abbrev pub slice_lists : NetShape → List (List ℕ) → List Slice → List (List ℕ)
slice_lists net samples slices = map (slice_list net.units (map (row_bytes net.inputs) samples)) slices

-- the slices of each input, and of each equation from which an output can be reached, give the bytes of its list
abbrev pub EquationsGiveBytes : List EquationShape → List ℕ → List Operand → List (List ℕ) → Type 0
EquationsGiveBytes equations widths outputs samples =
    EachEquation equations (λ i e. has_units (plan_of equations widths outputs) i e ≡ true
    → slice_lists (net_of equations widths outputs) samples (cut_value equations widths outputs i)
    ≡ byte_lists (slice_index widths i) (list_of equations widths samples i))

-- so do the slices of each output
abbrev pub OutputsGiveBytes : List EquationShape → List ℕ → List Operand → List (List ℕ) → Type 0
OutputsGiveBytes equations widths outputs samples =
    map (λ (o : OutputShape). slice_lists (net_of equations widths outputs) samples o.slices)
    (net_of equations widths outputs).outputs
    ≡ map (λ a. byte_lists (operand_width widths a) (output_list equations widths samples a)) outputs
