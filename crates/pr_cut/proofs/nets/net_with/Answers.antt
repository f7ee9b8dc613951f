use Rattle.std.proofs.Common.{◌≡◌, Bool, List, length, map, subst, sym, ap, ap₂, ◌∙◌, arith}
use Rattle.std.proofs.lemmas.Result.{IfOk-from_err}
use Rattle.pr_net.specs.declared.cells.Slice.{Slice}
use Rattle.pr_net.specs.declared.cells.Cell.{Cell}
use Rattle.pr_cut_units.specs.Equations.{cut_whole}
use Rattle.pr_cut_units.specs.Groups.{Holds, groups_of}
use Rattle.pr_cut_units.specs.Nets.{holds_from, output_of}
use Rattle.pr_cut_plan.specs.Parts.{AreParts}
use Rattle.pr_cut_plan.proofs.Parted.{parted}
use Rattle.pr_cut.specs.Sources.{equations_in, plan_in, AreReady}
use Rattle.pr_cut.proofs.OutputLemmas.{outputs_ready}
use Rattle.pr_cut.proofs.NetLemmas.{net_made}
use Rattle.pr_cut.proofs.nets.net_with.Goals as goal

pub outputs-requires-clause-ready : goal.outputs-requires-clause-ready
outputs-requires-clause-ready c =
    let s = c.args.source.now in
    subst (λ (vs : List (List Slice)). AreReady (plan_in s) vs s.flat.now.outputs.items) (sym (c.deref-2.ensures.value ∙ c.in_ok-made.ensures.values))
    (outputs_ready (equations_in s) s.flat.now.outputs.items s.widths.now s.flat.now.lawful c.requires.planned.widths)

pub groups_of-requires-clause-few : goal.groups_of-requires-clause-few
groups_of-requires-clause-few c = omega (arith, ap length (c.deref-3.ensures.value ∙ c.in_ok-made.ensures.units), c.requires.planned.few)

pub groups_of-requires-clause-parts : goal.groups_of-requires-clause-parts
groups_of-requires-clause-parts c =
    let s = c.args.source.now in
    let p = c.requires.planned.plan in
    let plan = plan_in s in
    let holds : c.deref-4.result.now ≡ holds_from plan 0 plan.equations plan.reached = c.deref-4.ensures.value ∙ c.in_ok-holds.ensures s.widths.now p ∙ ap (λ (flags : List Bool). holds_from plan 0 plan.equations flags) p.reached in
    subst (λ (us : List (List Cell)). AreParts us 0 c.deref-4.result.now) (sym (c.deref-3.ensures.value ∙ c.in_ok-made.ensures.units))
    (subst (λ (hs : List Holds). AreParts (cut_whole plan).units 0 hs) (sym holds) (parted (equations_in s) s.widths.now s.flat.now.outputs.items s.flat.now.lawful c.requires.planned.widths))

pub returns : goal.returns
returns c =
    let s = c.args.source.now in
    let p = c.requires.planned.plan in
    let plan = plan_in s in
    let holds = c.deref-4.ensures.value ∙ c.in_ok-holds.ensures s.widths.now p ∙ ap (λ (flags : List Bool). holds_from plan 0 plan.equations flags) p.reached in
    net_made (equations_in s) s.widths.now s.flat.now.outputs.items _ c.in_ok-made.made.values.items c.in_ok-made.ensures.units c.in_ok-made.ensures.values
    (c.in_ok-groups.ensures ∙ ap₂ (λ (us : List (List Cell)) (hs : List Holds). groups_of us hs) c.deref-3.ensures.value holds)
    c.in_ok-inputs.ensures (c.in_ok-outputs.ensures ∙ ap (λ (vs : List (List Slice)). map (output_of plan vs) s.flat.now.outputs.items) c.deref-2.ensures.value)

pub returns-in_err-inputs : goal.returns-in_err-inputs
returns-in_err-inputs c = IfOk-from_err _ _ c.from_residual.ensures.0

pub returns-in_err-made : goal.returns-in_err-made
returns-in_err-made c = IfOk-from_err _ _ c.from_residual-in_err-made.ensures.0

pub returns-in_err-outputs : goal.returns-in_err-outputs
returns-in_err-outputs c = IfOk-from_err _ _ c.from_residual-in_err-outputs.ensures.0

pub returns-in_err-holds : goal.returns-in_err-holds
returns-in_err-holds c = IfOk-from_err _ _ c.from_residual-in_err-holds.ensures.0

pub returns-in_err-groups : goal.returns-in_err-groups
returns-in_err-groups c = IfOk-from_err _ _ c.from_residual-in_err-groups.ensures.0
