use Rattle.std.proofs.Common.{◌∙◌, List, Err, sym, ap, subst}
use Rattle.std.proofs.lemmas.Result.{err_from_is_err_and}
use Rattle.pr_flat.specs.Shape.{EquationShape}
use Rattle.pr_flat.specs.Widths.{AreWidths}
use Rattle.pr_expand_correct.proofs.AgreedPrograms.{widths-needed}
use Rattle.pr_lens_waste.proofs.ProgramLemmas.{at_exit, cut_why, front_why, lines_told, probe_why}
use Rattle.pr_lens_waste.proofs.programs.found_lines.Goals as goal

pub plan_of-requires : goal.plan_of-requires
plan_of-requires c =
    let passed = c.in_ok-front.ensures.passed in
    subst (λ (es : List EquationShape). AreWidths es c.in_ok-front.front.widths) (sym passed.flat.equations) passed.widths.are

pub probe-requires-clause-widths : goal.probe-requires-clause-widths
probe-requires-clause-widths c =
    let front = c.in_ok-front.front in
    widths-needed front.scoped.program front.widths front.scoped.lawful c.in_ok-front.ensures.passed.widths.are

pub probe-requires-clause-few : goal.probe-requires-clause-few
probe-requires-clause-few c = c.in_ok-front.ensures.passed.widths.made.few

pub returns-in_err-front-clause-untold : goal.returns-in_err-front-clause-untold
returns-in_err-front-clause-untold c =
    let p = err_from_is_err_and c.from_residual.result c.from_residual.ensures.1 in
    at_exit c.args.text.now c.from_residual.result _ p (front_why c.args.text.now _ c.in_err-front.ensures.refused)

pub returns-in_err-plan-clause-untold : goal.returns-in_err-plan-clause-untold
returns-in_err-plan-clause-untold c =
    let p = err_from_is_err_and c.from_residual-in_err-plan.result c.from_residual-in_err-plan.ensures.1 in
    let front = c.in_ok-front.front in
    let passed = c.in_ok-front.ensures.passed in
    at_exit c.args.text.now c.from_residual-in_err-plan.result _ p
    (cut_why c.args.text.now front.scoped.program front.widths front.flat _ passed.widths passed.flat (λ cap same. c.in_err-plan.ensures.limit cap (ap Err same)))

pub returns-in_err-probed-clause-untold : goal.returns-in_err-probed-clause-untold
returns-in_err-probed-clause-untold c =
    let p = err_from_is_err_and c.from_residual-in_err-probed.result c.from_residual-in_err-probed.ensures.1 in
    let front = c.in_ok-front.front in
    at_exit c.args.text.now c.from_residual-in_err-probed.result _ p (probe_why c.args.text.now front.scoped.program front.widths _ c.in_ok-front.ensures.passed.widths c.in_err-probed.ensures.refused)

pub returns-clause-lines : goal.returns-clause-lines
returns-clause-lines c =
    let front = c.in_ok-front.front in
    let passed = c.in_ok-front.ensures.passed in
    lines_told c.args.text.now front.scoped.program front.widths front.flat _ c.in_ok-probed.probed _ _ _ passed.widths passed.flat c.in_ok-probed.ensures.shows
    (c.deref.ensures.value ∙ c.in_ok-plan.ensures.plan.reached) c.deref-2.ensures.value c.shown_operands-operands.ensures c.in_ok-lines.ensures
