-- What is left of the groups: no unit of the group of a recurrence is tied to a later one. With it the net of flat equations is lawful.
use Rattle.std.proofs.Common.{◌≡◌, ◌<◌, ◌≤◌, ℕ, ◌+◌, false, None, List, [], length, take, arith, inl, inr}
use Rattle.std.specs.List.{Contains}
use Rattle.std.specs.Prelude.{slice_index_or}
use Rattle.std.proofs.lemmas.Bool.{or_right}
use Rattle.std.proofs.lemmas.List.Elements.{Contains-append_cases}
use Rattle.pr_flat.specs.declared.equations.Operand.{Operand}
use Rattle.pr_flat.specs.Shape.{EquationShape}
use Rattle.pr_flat.specs.Facts.{is_input, IsFlat}
use Rattle.pr_flat.specs.Widths.{AreWidths}
use Rattle.pr_net.specs.Shape.{cells_of}
use Rattle.pr_net.specs.Nets.{IsNet}
use Rattle.pr_cut_units.specs.Reached.{hold_count}
use Rattle.pr_cut_units.specs.Parts.{each}
use Rattle.pr_cut_units.specs.Groups.{tied_from, group_of}
use Rattle.pr_cut_units.specs.Equations.{plan_of, hold_unit}
use Rattle.pr_cut_units.specs.Nets.{net_of, limit_passed}
use Rattle.pr_cut_units.proofs.StateNets.{hold_is, MayHave, MayShow, ReadBy, states_allowed}
use Rattle.pr_cut_units.proofs.TiedNets.{own_rec, first_later, are_tied}
use Rattle.pr_cut_units.proofs.TiedLists.{hold_at, group_order}
use Rattle.pr_cut_units.proofs.NetOf.{net_is}
use Rattle.pr_cut_units.proofs.NetGrouped.{holds_of, IsRec, rec_parts, RecsApart, grouped_if_apart}

-- no unit of the group of a recurrence is tied to a later one
pub record TiedApart (equations : List EquationShape) (widths : List ℕ) (outputs : List Operand) : Type 0 where
  pub at : (let plan = plan_of equations widths outputs in let net = net_of equations widths outputs in
      (a b u : ℕ) → a < b → IsRec equations plan.reached a → IsRec equations plan.reached b → Contains (group_of net.units (holds_of plan a)) u → Contains (tied_from (holds_of plan b) [] 0 (take (hold_unit plan b) net.units)) u → ⊥)

-- the group of a recurrence ends before the units of a later one
pub group_before : (equations : List EquationShape) (widths : List ℕ) (outputs : List Operand) (a b : ℕ)
    → (let plan = plan_of equations widths outputs in a < b → IsRec equations plan.reached a → IsRec equations plan.reached b → hold_unit plan a + hold_count equations a ≤ hold_unit plan b)
group_before equations widths outputs a b l ra rb =
    let plan = plan_of equations widths outputs in
    let p = rec_parts ra.equation.op ra.rec in
    let own = own_rec equations widths a p.init p.first ra.equation ra.equation.op p.is in
    let at = hold_is plan a ra.equation ra.there in
    let end = first_later equations widths outputs a b ra.equation ra.there (or_right (is_input ra.equation.op) (slice_index_or plan.reached a false) ra.reached) l in
    let next = hold_is plan b rb.equation rb.there in
    omega (arith, own, at, end, next)

pub recs_apart : (equations : List EquationShape) (widths : List ℕ) (outputs : List Operand) → TiedApart equations widths outputs → RecsApart equations widths outputs
recs_apart equations widths outputs t =
    let plan = plan_of equations widths outputs in
    let net = net_of equations widths outputs in
    record {
      at = λ a b u l ra rb ca cb. elim (Contains-append_cases (tied_from (holds_of plan b) [] 0 (take (hold_unit plan b) net.units)) (each (hold_count equations b) (λ j. hold_unit plan b + j)) u cb) [
        | inl c ↦ t.at a b u l ra rb ca c
        | inr c ↦ (let low = (hold_at (hold_unit plan b) (hold_count equations b) u c).low in
            let high = (group_order net.units (holds_of plan a)).below u ca in
            let q = group_before equations widths outputs a b l ra rb in
            absurd (omega (arith, low, high, q)))
      ];
    }

-- the net of flat equations, within its limits, is lawful where no unit of the group of a recurrence is tied to a later one
pub net_if_apart : (columns : ℕ) (equations : List EquationShape) (widths : List ℕ) (outputs : List Operand) → IsFlat equations outputs → AreWidths equations widths → limit_passed columns (net_of equations widths outputs) ≡ None → TiedApart equations widths outputs → IsNet columns (net_of equations widths outputs)
net_if_apart columns equations widths outputs flat wide limits t =
    let z = λ (v : ℕ). length (cells_of (net_of equations widths outputs) v) in
    let plan = plan_of equations widths outputs in
    let g = grouped_if_apart columns equations widths outputs flat wide limits (recs_apart equations widths outputs t) in
    net_is columns equations widths outputs (MayHave z plan) (MayShow z plan) (ReadBy z plan) flat wide limits
    (states_allowed equations widths outputs flat wide (are_tied equations widths outputs flat wide g) g)
