use Rattle.std.proofs.Common.{◌∙◌, List, length, ap, sym, arith}
use Rattle.std.specs.List.{list_all}
use Rattle.pr_flat.specs.declared.equations.Equation.{Equation}
use Rattle.pr_flat.specs.declared.equations.Operand.{Operand}
use Rattle.pr_flat.specs.Shape.{EquationShape, shapes_of}
use Rattle.pr_scope_facts.specs.Numbers.{is_number}
use Rattle.pr_expand.proofs.Fitting.{made_flat}
use Rattle.pr_expand.proofs.Recurrences.{counted_number}
use Rattle.pr_expand.proofs.flats.flatten.Goals as goal

pub invariant_of-result : goal.invariant_of-result
invariant_of-result c =
    let es = c.args.expansion.equations.items in
    let number = counted_number es (length es) (omega arith) in
    record {
      lawful = made_flat c.args.program.now es c.args.expansion.outputs.items c.requires.kept c.requires.made (omega (arith, number, c.args.expansion.few))
          (ap (λ (xs : List Equation). list_all (λ (e : EquationShape). list_all is_number e.args) (shapes_of xs)) (sym c.deref.ensures.value) ∙ c.equations_fit.ensures)
          (ap (λ (xs : List Operand). list_all is_number xs) (sym c.deref-2.ensures.value) ∙ c.all_fit.ensures);
    }
