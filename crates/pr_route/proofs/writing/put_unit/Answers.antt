use Rattle.std.proofs.Common.{arith, rules}
use Rattle.std.proofs.lemmas.Grind.{common_steps}
use Rattle.pr_route.proofs.writing.put_unit.Goals as goal

pub loop-place-preserved : goal.loop-place-preserved
loop-place-preserved g c = record {
  size = search rules;
  elements = λ s k. grind (arith, common_steps, c.loop-place.invariant.elements s k, c.put_pe.ensures s k);
}
