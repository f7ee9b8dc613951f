use Rattle.std.proofs.Common.{◌≡◌, true, take}
use Rattle.std.specs.List.{list_all}
use Rattle.pr_flat.specs.declared.equations.Equation.{Equation}
use Rattle.pr_scope_facts.specs.Numbers.{is_number}
use Rattle.pr_expand.proofs.flats.equations_fit.Given as goal

abbrev pub invariant-loop-equation : goal.invariant-loop-equation
invariant-loop-equation l = list_all (λ (e : Equation). list_all is_number e.args.items) (take l.equation-index l.equations) ≡ true
