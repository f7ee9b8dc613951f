use Rattle.std.proofs.Common.{◌∙◌, arith}
use Rattle.std.proofs.lemmas.List.{take_rest}
use Rattle.pr_edge.proofs.Appending.{appends_more}
use Rattle.pr_edge.proofs.writing.write_pieces.Goals as goal

pub loop-done-preserved : goal.loop-done-preserved
loop-done-preserved g c = record {
  within = omega (arith, c.in-Ok.ensures.bound);
  front = appends_more _ _ _ _ _ _ c.loop-done.invariant.front (rw take_rest at c.in-Ok.ensures.appended);
  steady = c.in-Ok.ensures.steady ∙ c.loop-done.invariant.steady;
}
