use Rattle.std.proofs.Common.{subst, ap, Err, List}
use Rattle.std.proofs.lemmas.Result.{err_from_is_err_and}
use Rattle.pr_flat.specs.Shape.{EquationShape}
use Rattle.pr_flat.specs.Widths.{IsFirstWithout}
use Rattle.pr_compile_front.proofs.FrontLemmas.{at_exit, kept_of, made_of, scope_answer, expand_answer, width_answer}
use Rattle.pr_compile_front.proofs.fronts.read_program.Goals as goal

pub returns-in_err-scoped-clause-refused : goal.returns-in_err-scoped-clause-refused
returns-in_err-scoped-clause-refused c =
    let p = err_from_is_err_and c.from_residual-in_err-scoped.result c.from_residual-in_err-scoped.ensures.1 in
    at_exit c.args.text.now c.from_residual-in_err-scoped.result _ p (scope_answer c.args.text.now c.in_ok-program.program _ c.in_ok-program.ensures.read c.in_err-scoped.ensures.err)

pub returns-in_err-flat-clause-refused : goal.returns-in_err-flat-clause-refused
returns-in_err-flat-clause-refused c =
    let p = err_from_is_err_and c.from_residual-in_err-flat.result c.from_residual-in_err-flat.ensures.1 in
    let kept = kept_of c.args.text.now c.in_ok-program.program c.in_ok-scoped.scoped c.in_ok-program.ensures.read c.in_ok-scoped.ensures.ok in
    at_exit c.args.text.now c.from_residual-in_err-flat.result _ p (expand_answer c.args.text.now c.in_ok-scoped.scoped.program _ kept c.in_err-flat.ensures.limit)

pub returns-in_err-widths-clause-refused : goal.returns-in_err-widths-clause-refused
returns-in_err-widths-clause-refused c =
    let p = err_from_is_err_and c.from_residual-in_err-widths.result c.from_residual-in_err-widths.ensures.1 in
    let kept = kept_of c.args.text.now c.in_ok-program.program c.in_ok-scoped.scoped c.in_ok-program.ensures.read c.in_ok-scoped.ensures.ok in
    let made = made_of c.args.text.now c.in_ok-scoped.scoped.program _ _ kept c.in_ok-flat.ensures.equations c.in_ok-flat.flat.lawful in
    at_exit c.args.text.now c.from_residual-in_err-widths.result _ p (width_answer c.args.text.now c.in_ok-scoped.scoped.program _ made (λ n e. subst (λ (es : List EquationShape). IsFirstWithout es n) c.in_ok-flat.ensures.equations (c.in_err-widths.ensures.without n (ap Err e))))
