use Rattle.std.proofs.Common.{◌≡◌, ◌≤◌, ℕ, List, length, subst, sym, ap, ◌∙◌}
use Rattle.std.proofs.lemmas.Result.{IfOk-from_err}
use Rattle.pr_flat.specs.Shape.{EquationShape, shapes_of}
use Rattle.pr_flat.specs.Widths.{AreWidths}
use Rattle.pr_cut_units.specs.Equations.{plan_of, cut_whole}
use Rattle.pr_cut_units.specs.Nets.{net_of}
use Rattle.pr_cut_plan.specs.Plans.{IsPlanOf}
use Rattle.pr_cut.proofs.NetLemmas.{inputs_room}
use Rattle.pr_cut.proofs.nets.cut.Goals as goal

pub net_with-requires-clause-planned : goal.net_with-requires-clause-planned
net_with-requires-clause-planned c =
    let equations : List EquationShape = shapes_of c.args.flat.now.equations.items in
    let outputs = c.args.flat.now.outputs.items in
    let same : c.deref.result.now ≡ c.args.widths.now = cc (c.deref.ensures.value, c.widths.view_is) in
    record {
      widths = subst (λ (ws : List ℕ). AreWidths equations ws) (sym same) c.requires.widths;
      plan = subst (λ (ws : List ℕ). IsPlanOf c.in_ok-plan.plan equations ws outputs) (sym same) c.in_ok-plan.ensures.plan;
      few = subst (λ (ws : List ℕ). length (cut_whole (plan_of equations ws outputs)).units ≤ 32768) (sym same) c.in_ok-plan.ensures.units;
    }

pub net_with-requires-clause-room : goal.net_with-requires-clause-room
net_with-requires-clause-room c = inputs_room c.args.columns (shapes_of c.args.flat.now.equations.items) c.args.widths.now c.args.flat.now.outputs.items c.requires.columns.1 c.in_ok-plan.ensures.within

pub returns-clause-net : goal.returns-clause-net
returns-clause-net c =
    let same : c.deref.result.now ≡ c.args.widths.now = cc (c.deref.ensures.value, c.widths.view_is) in
    c.in_ok-net.ensures ∙ ap (λ (ws : List ℕ). net_of (shapes_of c.args.flat.now.equations.items) ws c.args.flat.now.outputs.items) same

pub returns-in_err-plan-clause-net : goal.returns-in_err-plan-clause-net
returns-in_err-plan-clause-net c = IfOk-from_err _ _ c.from_residual.ensures.0

pub returns-in_err-plan-clause-within : goal.returns-in_err-plan-clause-within
returns-in_err-plan-clause-within c = IfOk-from_err _ _ c.from_residual.ensures.0

pub returns-in_err-net-clause-net : goal.returns-in_err-net-clause-net
returns-in_err-net-clause-net c = IfOk-from_err _ _ c.from_residual-in_err-net.ensures.0

pub returns-in_err-net-clause-within : goal.returns-in_err-net-clause-within
returns-in_err-net-clause-within c = IfOk-from_err _ _ c.from_residual-in_err-net.ensures.0
