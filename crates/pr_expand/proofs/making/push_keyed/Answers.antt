use Rattle.std.proofs.Common.{◌∙◌, Option, ap, arith, ℕ, List}
use Rattle.std.proofs.lemmas.Result.{IfOk-from_err}
use Rattle.pr_flat.specs.Shape.{equation_shape, shapes_of}
use Rattle.pr_expand.specs.Keys.{found_in, with_key}
use Rattle.pr_expand.proofs.KeyLemmas.{found_more, found_there}
use Rattle.pr_expand.proofs.Recurrences.{counted_number}
use Rattle.pr_expand.proofs.making.push_keyed.Goals as goal

pub invariant_of-result : goal.invariant_of-result
invariant_of-result c = record {
  few = omega (arith, c.in-Ok.ensures.len, c.if-number-ge-MOST_EQUATIONS.false);
  found = found_there (found_in c.in_ok-delays.delays) c.args.ledger.equations.items c.push.new.self.items c.args.equation
      (found_more (found_in c.args.ledger.delays) (found_in c.in_ok-delays.delays) (shapes_of c.args.ledger.equations.items) (equation_shape c.args.equation) c.len-number.result c.args.ledger.found
      (counted_number c.args.ledger.equations.items c.len-number.result (omega arith))
      (c.in_ok-delays.ensures ∙ ap (λ (k : Option (List ℕ)). with_key k c.len-number.result (found_in c.args.ledger.delays)) c.requires))
      c.in-Ok.ensures.items;
}

pub returns-in_err-delays-clause-value : goal.returns-in_err-delays-clause-value
returns-in_err-delays-clause-value c = IfOk-from_err _ _ c.from_residual.ensures.0
