use Rattle.std.proofs.Common.{ℕ, ◌≡◌, ◌∙◌, Bool, Some, List, length, ap, sym, arith}
use Rattle.std.proofs.lemmas.Result.{IfOk-from_err, err_from_is_err_and}
use Rattle.pr_base.specs.declared.caps.Cap.{Cap}
use Rattle.pr_flat.specs.Shape.{shapes_of}
use Rattle.pr_cut_units.specs.Equations.{plan_of, hold_unit}
use Rattle.pr_cut_units.proofs.CountNets.{length-reached}
use Rattle.pr_cut_units.specs.Equations.{all_units}
use Rattle.pr_cut_plan.proofs.ReachedLemmas.{shapes_few}
use Rattle.pr_cut_plan.proofs.PlanLemmas.{units_counted, bytes_passed, outputs_passed, units_passed, none_passed, only_units}
use Rattle.pr_cut_plan.proofs.plans.plan_of.Goals as goal

pub returns-then-input_bytes-columns-clause-limit : goal.returns-then-input_bytes-columns-clause-limit
returns-then-input_bytes-columns-clause-limit c = λ cap e. (let same : Cap.InputBytes ≡ cap = cc in bytes_passed c.args.columns (shapes_of c.args.flat.now.equations.items) c.args.widths.now c.args.flat.now.outputs.items (omega arith) ∙ ap (λ (k : Cap). Some k) same)

pub returns-then-len-gt-MOST_OUTPUTS-clause-limit : goal.returns-then-len-gt-MOST_OUTPUTS-clause-limit
returns-then-len-gt-MOST_OUTPUTS-clause-limit c = λ cap e. (let same : Cap.Outputs ≡ cap = cc in outputs_passed c.args.columns (shapes_of c.args.flat.now.equations.items) c.args.widths.now c.args.flat.now.outputs.items (omega arith) (omega (arith, c.args.flat.now.outputs.ok.0)) ∙ ap (λ (k : Cap). Some k) same)

pub returns-then-input_bytes-columns-clause-passed : goal.returns-then-input_bytes-columns-clause-passed
returns-then-input_bytes-columns-clause-passed c = λ cap passed other. (let e = bytes_passed c.args.columns (shapes_of c.args.flat.now.equations.items) c.args.widths.now c.args.flat.now.outputs.items (omega arith) in cc (e, passed))

pub returns-then-len-gt-MOST_OUTPUTS-clause-passed : goal.returns-then-len-gt-MOST_OUTPUTS-clause-passed
returns-then-len-gt-MOST_OUTPUTS-clause-passed c = λ cap passed other. (let e = outputs_passed c.args.columns (shapes_of c.args.flat.now.equations.items) c.args.widths.now c.args.flat.now.outputs.items (omega arith) (omega (arith, c.args.flat.now.outputs.ok.0)) in cc (e, passed))

pub hold_units-requires-clause-flags : goal.hold_units-requires-clause-flags
hold_units-requires-clause-flags c =
    let same = ap (λ (xs : List Bool). length xs) c.in_ok-reached.ensures in
    let long = length-reached c.args.flat.now.outputs.items 0 (shapes_of c.args.flat.now.equations.items) in
    let few = shapes_few c.args.flat.now.equations.items in
    let at = ap (λ (xs : List Bool). length xs) c.deref-2.ensures.value in
    omega (arith, same, long, few, at, c.args.flat.now.equations.ok.0)

pub returns-in_err-hold_units-clause-limit : goal.returns-in_err-hold_units-clause-limit
returns-in_err-hold_units-clause-limit c = λ cap e.
    (let p = err_from_is_err_and c.from_residual-in_err-hold_units.result c.from_residual-in_err-hold_units.ensures.1 in
    let q = c.in_err-hold_units.ensures.limit cap (cc (p.1, p.2, e)) in
    let es = shapes_of c.args.flat.now.equations.items in
    let outs = c.args.flat.now.outputs.items in
    let w : c.deref.result.now ≡ c.args.widths.now = cc (c.deref.ensures.value, c.widths.view_is) in
    let all = ap (λ (ws : List ℕ). all_units (plan_of es ws outs)) w in
    let many = q.1 in
    units_passed c.args.columns es c.args.widths.now outs c.args.flat.now.lawful c.requires (omega arith) (omega (arith, c.args.flat.now.outputs.ok.0)) (omega (arith, many, all)) ∙ ap (λ (k : Cap). Some k) (sym q.0))

pub returns-clause-plan : goal.returns-clause-plan
returns-clause-plan c =
    let es = shapes_of c.args.flat.now.equations.items in
    let outs = c.args.flat.now.outputs.items in
    let few = shapes_few c.args.flat.now.equations.items in
    let w : c.deref.result.now ≡ c.args.widths.now = cc (c.deref.ensures.value, c.widths.view_is) in
    let long = length-reached outs 0 es in
    let same = ap (λ (xs : List Bool). length xs) c.in_ok-reached.ensures in
    let units = c.in_ok-hold_units.ensures.count in
    let counts = c.in_ok-hold_counts.ensures.count in
    record {
      reached = c.in_ok-reached.ensures;
      firsts = λ i l. c.in_ok-hold_units.ensures.firsts i (omega (arith, l, few, c.args.flat.now.equations.ok.0)) ∙ ap (λ (ws : List ℕ). hold_unit (plan_of es ws outs) i) w;
      counts = c.in_ok-hold_counts.ensures.counts;
      flags = omega (arith, same, long, c.in_ok-reached.reached.ok.0);
      units = omega (arith, units, few, c.args.flat.now.equations.ok.0);
      holds = omega (arith, counts, few, c.args.flat.now.equations.ok.0);
    }

pub returns-clause-within : goal.returns-clause-within
returns-clause-within c =
    let es = shapes_of c.args.flat.now.equations.items in
    let outs = c.args.flat.now.outputs.items in
    let w : c.deref.result.now ≡ c.args.widths.now = cc (c.deref.ensures.value, c.widths.view_is) in
    let all = ap (λ (ws : List ℕ). all_units (plan_of es ws outs)) w in
    let few = c.in_ok-hold_units.ensures.within in
    none_passed c.args.columns es c.args.widths.now outs c.args.flat.now.lawful c.requires (omega arith) (omega (arith, c.args.flat.now.outputs.ok.0)) (omega (arith, few, all))

pub returns-clause-units : goal.returns-clause-units
returns-clause-units c =
    let es = shapes_of c.args.flat.now.equations.items in
    let outs = c.args.flat.now.outputs.items in
    let w : c.deref.result.now ≡ c.args.widths.now = cc (c.deref.ensures.value, c.widths.view_is) in
    let all = ap (λ (ws : List ℕ). all_units (plan_of es ws outs)) w in
    let few = c.in_ok-hold_units.ensures.within in
    let counted = units_counted es c.args.widths.now outs c.args.flat.now.lawful c.requires in
    omega (arith, few, all, counted)

pub returns-in_err-reached-clause-plan : goal.returns-in_err-reached-clause-plan
returns-in_err-reached-clause-plan c = IfOk-from_err _ _ c.from_residual.ensures.0

pub returns-in_err-reached-clause-within : goal.returns-in_err-reached-clause-within
returns-in_err-reached-clause-within c = IfOk-from_err _ _ c.from_residual.ensures.0

pub returns-in_err-reached-clause-units : goal.returns-in_err-reached-clause-units
returns-in_err-reached-clause-units c = IfOk-from_err _ _ c.from_residual.ensures.0

pub returns-in_err-hold_counts-clause-plan : goal.returns-in_err-hold_counts-clause-plan
returns-in_err-hold_counts-clause-plan c = IfOk-from_err _ _ c.from_residual-in_err-hold_counts.ensures.0

pub returns-in_err-hold_counts-clause-within : goal.returns-in_err-hold_counts-clause-within
returns-in_err-hold_counts-clause-within c = IfOk-from_err _ _ c.from_residual-in_err-hold_counts.ensures.0

pub returns-in_err-hold_counts-clause-units : goal.returns-in_err-hold_counts-clause-units
returns-in_err-hold_counts-clause-units c = IfOk-from_err _ _ c.from_residual-in_err-hold_counts.ensures.0

pub returns-in_err-hold_units-clause-plan : goal.returns-in_err-hold_units-clause-plan
returns-in_err-hold_units-clause-plan c = IfOk-from_err _ _ c.from_residual-in_err-hold_units.ensures.0

pub returns-in_err-hold_units-clause-within : goal.returns-in_err-hold_units-clause-within
returns-in_err-hold_units-clause-within c = IfOk-from_err _ _ c.from_residual-in_err-hold_units.ensures.0

pub returns-in_err-hold_units-clause-units : goal.returns-in_err-hold_units-clause-units
returns-in_err-hold_units-clause-units c = IfOk-from_err _ _ c.from_residual-in_err-hold_units.ensures.0

pub returns-in_err-reached-clause-passed : goal.returns-in_err-reached-clause-passed
returns-in_err-reached-clause-passed c = λ cap passed other. absurd (other (only_units c.args.columns (shapes_of c.args.flat.now.equations.items) c.args.widths.now c.args.flat.now.outputs.items cap (omega arith) (omega (arith, c.args.flat.now.outputs.ok.0)) passed))

pub returns-in_err-hold_counts-clause-passed : goal.returns-in_err-hold_counts-clause-passed
returns-in_err-hold_counts-clause-passed c = λ cap passed other. absurd (other (only_units c.args.columns (shapes_of c.args.flat.now.equations.items) c.args.widths.now c.args.flat.now.outputs.items cap (omega arith) (omega (arith, c.args.flat.now.outputs.ok.0)) passed))

pub returns-in_err-hold_units-clause-passed : goal.returns-in_err-hold_units-clause-passed
returns-in_err-hold_units-clause-passed c = λ cap passed other. absurd (other (only_units c.args.columns (shapes_of c.args.flat.now.equations.items) c.args.widths.now c.args.flat.now.outputs.items cap (omega arith) (omega (arith, c.args.flat.now.outputs.ok.0)) passed))

pub returns-clause-passed : goal.returns-clause-passed
returns-clause-passed c = λ cap passed other. absurd (other (only_units c.args.columns (shapes_of c.args.flat.now.equations.items) c.args.widths.now c.args.flat.now.outputs.items cap (omega arith) (omega (arith, c.args.flat.now.outputs.ok.0)) passed))
