use Rattle.std.proofs.Common.{◌≡◌, ◌∙◌, List, ap, sym, Bool, true, arith}
use Rattle.std.specs.List.{list_all}
use Rattle.std.proofs.lemmas.List.{take_all}
use Rattle.pr_flat.specs.declared.equations.Equation.{Equation}
use Rattle.pr_flat.specs.declared.equations.Operand.{Operand}
use Rattle.pr_scope_facts.specs.Numbers.{is_number}
use Rattle.pr_expand.proofs.Fitting.{all_more, fitting}
use Rattle.pr_expand.proofs.flats.equations_fit.Goals as goal

pub loop-equation-preserved : goal.loop-equation-preserved
loop-equation-preserved c =
    let test : Equation → Bool = λ e. list_all is_number e.args.items in
    let one : test c.equation-item.result ≡ true = ap (λ (xs : List Operand). list_all is_number xs) (sym c.deref.ensures.value) ∙ c.all_fit.ensures in
    all_more test c.args.equations.now c.loop-equation.equation-index c.equation-item.result (omega arith) c.loop-equation.invariant (ap test (sym c.equation-item.is) ∙ one)

pub returns : goal.returns
returns c =
    sym (fitting c.args.equations.now) ∙
    (ap (λ (xs : List Equation). list_all (λ (e : Equation). list_all is_number e.args.items) xs) (sym (take_all c.loop-equation.equation-index c.args.equations.now (omega arith))) ∙ c.loop-equation.invariant)
