use Rattle.std.proofs.Common.{Some, ◌∙◌, ◌-◌, arith, rules, sym, ap}
use Rattle.pr_flat.specs.declared.equations.Equation.{Equation}
use Rattle.pr_flat.specs.Shape.{equation_shape, shapes_of}
use Rattle.pr_expand_spec.specs.Making.{Equations, delay_from}
use Rattle.pr_expand.proofs.Arguments.{last_set}
use Rattle.pr_expand.proofs.KeyLemmas.{found_declared}
use Rattle.pr_expand.proofs.making.with_width.Goals as goal

pub invariant_of-result-2 : goal.invariant_of-result-2
invariant_of-result-2 c = record {
  few = search rules;
  found = λ q k. c.args.ledger.found q k ∙ sym (ap (λ (xs : Equations). delay_from 0 xs q k) (last_set c.args.width c.args.ledger.equations.items (c.len-count.result - 1) c.index_mut.result.now _ (omega arith) (ap (λ (e : Equation). record (equation_shape e) { declared = Some c.args.width }) c.index_mut.ensures.value)) ∙ found_declared c.args.width 0 (shapes_of c.args.ledger.equations.items) q k);
}

pub returns : goal.returns
returns c = last_set c.args.width c.args.ledger.equations.items (c.len-count.result - 1) c.index_mut.result.now _ (omega arith) (ap (λ (e : Equation). record (equation_shape e) { declared = Some c.args.width }) c.index_mut.ensures.value)
