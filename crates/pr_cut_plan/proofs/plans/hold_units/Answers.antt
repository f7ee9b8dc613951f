use Rattle.std.proofs.Common.{ℕ, ◌≡◌, ◌∙◌, ◌+◌, List, length, length-append, get_or, ap, refl, arith}
use Rattle.pr_base.specs.declared.caps.Cap.{Cap}
use Rattle.pr_flat.specs.Shape.{equation_shape, shapes_of}
use Rattle.pr_cut_units.specs.Equations.{plan_of, hold_unit}
use Rattle.pr_cut_plan.proofs.EquationLemmas.{read_at}
use Rattle.pr_cut_plan.proofs.ReachedLemmas.{shapes_few}
use Rattle.pr_cut_plan.proofs.PlanLemmas.{first_next, first_within, first_last, hold_at, push_each}
use Rattle.pr_cut_plan.proofs.plans.hold_units.Goals as goal

pub body_count-requires-clause-args : goal.body_count-requires-clause-args
body_count-requires-clause-args c = let r = read_at c.args.flat.now.equations.items c.args.flat.now.outputs.items c.args.widths.now c.loop-i.i c.index.result.now c.args.flat.now.lawful c.requires.widths (omega (arith, c.args.flat.now.equations.ok.0)) c.index.ensures in omega (arith, r.args, c.index.result.now.args.ok.0)

pub body_count-requires-clause-kinds : goal.body_count-requires-clause-kinds
body_count-requires-clause-kinds c = let r = read_at c.args.flat.now.equations.items c.args.flat.now.outputs.items c.args.widths.now c.loop-i.i c.index.result.now c.args.flat.now.lawful c.requires.widths (omega (arith, c.args.flat.now.equations.ok.0)) c.index.ensures in omega (arith, r.kinds, c.index.result.now.kinds.ok.0)

pub body_count-requires-clause-within : goal.body_count-requires-clause-within
body_count-requires-clause-within c = (read_at c.args.flat.now.equations.items c.args.flat.now.outputs.items c.args.widths.now c.loop-i.i c.index.result.now c.args.flat.now.lawful c.requires.widths (omega (arith, c.args.flat.now.equations.ok.0)) c.index.ensures).within

pub returns-then-first-clause-limit : goal.returns-then-first-clause-limit
returns-then-first-clause-limit c = λ cap e.
    (let plan = plan_of (shapes_of c.args.flat.now.equations.items) c.args.widths.now c.args.flat.now.outputs.items in
    let same : cap ≡ Cap.Units = cc in
    let next = first_next plan c.loop-i.i in
    let all = first_within plan (c.loop-i.i + 1) in
    let first = c.loop-i.invariant.first in
    let own = c.unit_count-first.ensures.is in
    (same, omega (arith, next, all, first, own, c.if-first.true)))

pub loop-i-preserved : goal.loop-i-preserved
loop-i-preserved c =
    let es = shapes_of c.args.flat.now.equations.items in
    let plan = plan_of es c.args.widths.now c.args.flat.now.outputs.items in
    let x = c.index.result.now in
    let r = read_at c.args.flat.now.equations.items c.args.flat.now.outputs.items c.args.widths.now c.loop-i.i x c.args.flat.now.lawful c.requires.widths (omega (arith, c.args.flat.now.equations.ok.0)) c.index.ensures in
    let next = first_next plan c.loop-i.i in
    let first = c.loop-i.invariant.first in
    let own = c.unit_count-first.ensures.is in
    let items = c.in_ok-push.ensures in
    let here : c.loop-i.first + c.body_count.result ≡ hold_unit plan c.loop-i.i = hold_at es c.args.widths.now c.args.flat.now.outputs.items c.loop-i.i (c.loop-i.first + c.body_count.result) c.loop-i.first c.body_count.result (equation_shape x) r.there first c.body_count.ensures.is refl in
    record {
      first = omega (arith, next, first, own);
      few = c.if-first.false;
      long = omega (arith, ap (λ (xs : List ℕ). length xs) items, length-append {A = ℕ}, c.loop-i.invariant.long, c.push.new.all.ok.0, c.loop-i.units.ok.0);
      units = λ k l. (ap (λ (xs : List ℕ). get_or xs k 0) items
          ∙ push_each c.loop-i.units.items (c.loop-i.first + c.body_count.result) c.loop-i.i (hold_unit plan) (omega (arith, c.loop-i.invariant.long, c.loop-i.units.ok.0)) c.loop-i.invariant.units here k l);
    }

pub returns-clause-within : goal.returns-clause-within
returns-clause-within c =
    let last = first_last (shapes_of c.args.flat.now.equations.items) c.args.widths.now c.args.flat.now.outputs.items c.loop-i.i (omega (arith, shapes_few c.args.flat.now.equations.items, c.len-i-end.ensures, c.args.flat.now.equations.ok.0, c.loop-i-test.false)) in
    omega (arith, last, c.loop-i.invariant.first, c.loop-i.invariant.few)
