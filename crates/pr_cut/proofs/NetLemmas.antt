-- The net, of its parts.
use Rattle.std.proofs.Common.{◌≡◌, ◌≤◌, ℕ, None, List, map, refl, ap, ap₂, ◌∙◌, arith}
use Rattle.std.specs.List.{sum_by}
use Rattle.pr_base.specs.Numbers.{slices_of}
use Rattle.pr_flat.specs.declared.equations.Operand.{Operand}
use Rattle.pr_flat.specs.Shape.{EquationShape}
use Rattle.pr_flat.specs.Values.{input_widths}
use Rattle.pr_net.specs.declared.cells.Slice.{Slice}
use Rattle.pr_net.specs.declared.cells.Cell.{Cell}
use Rattle.pr_net.specs.Shape.{NetShape, OutputShape}
use Rattle.pr_cut_units.specs.Equations.{plan_of, cut_whole}
use Rattle.pr_cut_units.specs.Groups.{groups_of}
use Rattle.pr_cut_units.specs.Nets.{holds_from, output_of, net_of, limit_passed}
use Rattle.pr_cut_units.proofs.EndNets.{in_limits}

pub net_made : (equations : List EquationShape) (widths : List ℕ) (outputs : List Operand) (net : NetShape) (values : List (List Slice)) → let plan = plan_of equations widths outputs in
    net.units ≡ (cut_whole plan).units → values ≡ (cut_whole plan).values → net.groups ≡ groups_of net.units (holds_from plan 0 plan.equations plan.reached)
    → net.inputs ≡ input_widths equations → net.outputs ≡ map (output_of plan values) outputs → net ≡ net_of equations widths outputs
unfolding net_of
net_made equations widths outputs net values eu ev eg ei eo =
    let plan = plan_of equations widths outputs in
    let holds = holds_from plan 0 plan.equations plan.reached in
    let whole = (cut_whole plan).units in
    let made : List (List Cell) → List (List ℕ) → List ℕ → List OutputShape → NetShape = λ (us : List (List Cell)) (gs : List (List ℕ)) (is : List ℕ) (os : List OutputShape). record { units = us; groups = gs; inputs = is; outputs = os } in
    ap₂ (λ (us : List (List Cell)) (gs : List (List ℕ)). made us gs net.inputs net.outputs) eu (eg ∙ ap (λ (us : List (List Cell)). groups_of us holds) eu)
    ∙ ap₂ (λ (is : List ℕ) (os : List OutputShape). made whole (groups_of whole holds) is os) ei (eo ∙ ap (λ (vs : List (List Slice)). map (output_of plan vs) outputs) ev)

pub net_inputs : (equations : List EquationShape) (widths : List ℕ) (outputs : List Operand) → (net_of equations widths outputs).inputs ≡ input_widths equations
unfolding net_of
net_inputs equations widths outputs = refl

-- the bytes of the inputs of a net that passes no limit
pub inputs_room : (columns : ℕ) (equations : List EquationShape) (widths : List ℕ) (outputs : List Operand) → columns ≤ 64 → limit_passed columns (net_of equations widths outputs) ≡ None → sum_by slices_of (input_widths equations) ≤ 64
inputs_room columns equations widths outputs few h =
    let room = (in_limits columns (net_of equations widths outputs) h).room in
    let same = ap (sum_by slices_of) (net_inputs equations widths outputs) in
    omega (arith, room, same, few)
