-- The net of flat equations, and what is too much for one.
use Rattle.std.specs.Prelude.{ℕ, suc, ◌&&◌, Bool, nat_lt, if◌then◌else◌, Option, Some, None, List, [], ◌∷◌, length, map}
use Rattle.std.specs.List.{sum_by}
use Rattle.pr_base.specs.Numbers.{slices_of}
use Rattle.pr_base.specs.declared.caps.Cap.{Cap}
use Rattle.pr_flat.specs.declared.equations.Operand.{Operand}
use Rattle.pr_flat.specs.Shape.{EquationShape}
use Rattle.pr_flat.specs.Facts.{is_rec}
use Rattle.pr_flat.specs.Widths.{operand_width}
use Rattle.pr_flat.specs.Values.{input_widths}
use Rattle.pr_net.specs.declared.cells.Slice.{Slice}
use Rattle.pr_net.specs.Shape.{OutputShape, NetShape}
use Rattle.pr_cut_units.specs.Reached.{hold_count}
use Rattle.pr_cut_units.specs.Equations.{UnitPlan, plan_of, hold_unit, operand_slices, Cut, cut_whole}
use Rattle.pr_cut_units.specs.Groups.{Holds, groups_of}

-- the hold units of the recurrences among these equations, from number i on, that have units
abbrev pub holds_from : UnitPlan → ℕ → List EquationShape → List Bool → List Holds
holds_from plan i [] flags = []
holds_from plan i (e ∷ rest) [] = []
holds_from plan i (e ∷ rest) (counts ∷ flags) =
    if counts && is_rec e.op
    then record { first = hold_unit plan i; count = hold_count plan.equations i } ∷ holds_from plan (suc i) rest flags
    else holds_from plan (suc i) rest flags

abbrev pub output_of : UnitPlan → List (List Slice) → Operand → OutputShape
output_of plan values output = record { width = operand_width plan.widths output; slices = operand_slices plan values output }

-- a net of these units and values
abbrev pub net_with : UnitPlan → Cut → List Operand → NetShape
net_with plan cut outputs = record {
  units = cut.units;
  groups = groups_of cut.units (holds_from plan 0 plan.equations plan.reached);
  inputs = input_widths plan.equations;
  outputs = map (output_of plan cut.values) outputs;
}

-- the net of equations with these widths
unfoldable pub net_of : List EquationShape → List ℕ → List Operand → NetShape
net_of equations widths outputs = let plan = plan_of equations widths outputs in net_with plan (cut_whole plan) outputs

-- the first limit that a net of this shape passes on a fabric of so many columns
abbrev pub limit_passed : ℕ → NetShape → Option Cap
limit_passed columns net =
    if nat_lt columns (sum_by slices_of net.inputs) then Some Cap.InputBytes
    else if nat_lt 64 (length net.outputs) then Some Cap.Outputs
    else if nat_lt 32768 (length net.units) then Some Cap.Units
    else None
