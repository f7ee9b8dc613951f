use Rattle.std.proofs.Common.{◌∙◌, Option, ap, arith, ℕ, List}
use Rattle.pr_flat.specs.Shape.{equation_shape, shapes_of}
use Rattle.pr_expand.specs.Keys.{found_in, without_key}
use Rattle.pr_expand.proofs.KeyLemmas.{found_at, found_fewer}
use Rattle.pr_expand.proofs.Recurrences.{counted_number}
use Rattle.pr_expand.proofs.ledgers.without_last.Goals as goal

pub invariant_of-result-in-Some : goal.invariant_of-result-in-Some
invariant_of-result-in-Some c = record {
  few = omega (arith, c.pop.ensures.len, c.args.ledger.few);
  found = found_fewer (found_in c.args.ledger.delays) (found_in c.forgotten-delays.result) (shapes_of c.pop.new.self.items) (equation_shape c.in-Some.last) c.len-number.result
      (found_at (found_in c.args.ledger.delays) c.pop.new.self.items c.args.ledger.equations.items c.in-Some.last c.args.ledger.found c.in-Some.ensures.items)
      (counted_number c.pop.new.self.items c.len-number.result (omega arith))
      (c.forgotten-delays.ensures ∙ ap (λ (k : Option (List ℕ)). without_key k c.len-number.result (found_in c.args.ledger.delays)) c.key_of.ensures);
}
