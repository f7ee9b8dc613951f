-- Where the units of equations end, and whose they are.
use Rattle.std.proofs.Common.{◌≡◌, ◌∙◌, ◌+◌, ◌<◌, ◌≤◌, ℕ, List, ◌∷◌, ◌++◌, Option, drop, get_or, length, sym, ap, append_assoc, arith}
use Rattle.std.specs.Prelude.{vec_len}
use Rattle.std.proofs.lemmas.List.{at_drop_more, length-map}
use Rattle.pr_flat.specs.declared.equations.Equation.{Equation}
use Rattle.pr_flat.specs.declared.equations.Operand.{Operand}
use Rattle.pr_flat.specs.declared.flat.Flat.{Flat}
use Rattle.pr_flat.specs.Flats.{equations_of}
use Rattle.pr_flat.specs.Shape.{equation_shape, shapes_of}
use Rattle.pr_flat.specs.Widths.{AreWidths}
use Rattle.pr_net.specs.Shape.{NetShape}
use Rattle.pr_cut_units.specs.Equations.{all_units, first_unit}
use Rattle.pr_cut_units.specs.Flats.{flat_net, flat_plan}
use Rattle.pr_cut_units.specs.Nets.{net_of}
use Rattle.pr_cut_units.proofs.CountNets.{count_whole}
use Rattle.pr_cut_units.proofs.WideNets.{are_counted}
use Rattle.pr_cut_plan.proofs.PlanLemmas.{first_last}
use Rattle.pr_lens_shares.specs.Owners.{input_owner, input_owners}

pub behind_all : (flat : Flat) (widths : List ℕ) (units count equation : ℕ) → units ≡ all_units (flat_plan flat widths) → count ≡ vec_len flat.equations → count ≤ equation → units ≡ first_unit (flat_plan flat widths) equation
behind_all flat widths units count equation all is behind =
    let shapes = length-map flat.equations.items equation_shape in
    all ∙ sym (first_last (equations_of flat) widths flat.outputs.items equation (omega (arith, behind, is, shapes, flat.equations.ok.0)))

pub all_counted : (flat : Flat) (widths : List ℕ) (net : NetShape) (units : ℕ) → AreWidths (equations_of flat) widths → net ≡ flat_net flat widths → units ≡ length net.units → units ≡ all_units (flat_plan flat widths)
unfolding net_of
all_counted flat widths net units wide same is =
    is ∙ (ap (λ (n : NetShape). length n.units) same ∙ count_whole (equations_of flat) widths flat.outputs.items (are_counted (equations_of flat) flat.outputs.items widths flat.lawful wide))

-- ---- the units of inputs
pub inputs_step : (operands : List Operand) (es : List Equation) (number : ℕ) (e : Equation) (before after whole : List (Option ℕ)) → number < length es → e ≡ get_or es number e → after ≡ before ++ input_owner operands number e.op
    → before ++ input_owners operands number (shapes_of (drop number es)) ≡ whole → after ++ input_owners operands (number + 1) (shapes_of (drop (number + 1) es)) ≡ whole
inputs_step operands es number e before after whole less is step rest =
    let more = input_owners operands (number + 1) (shapes_of (drop (number + 1) es)) in
    let here : input_owners operands number (shapes_of (drop number es)) ≡ input_owner operands number e.op ++ more =
    at_drop_more (λ xs. input_owners operands number (shapes_of xs)) es number e less ∙ ap (λ (x : Equation). input_owners operands number (shapes_of (x ∷ drop (number + 1) es))) (sym is) in
    ap (λ l. l ++ more) step
    ∙ (append_assoc before (input_owner operands number e.op) more
    ∙ (ap (λ l. before ++ l) (sym here) ∙ rest))
