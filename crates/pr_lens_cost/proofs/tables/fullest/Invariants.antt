use Rattle.pr_lens_cost.proofs.TextLemmas.{IsFullestBefore}
use Rattle.pr_lens_cost.proofs.tables.fullest.Given as goal

abbrev pub invariant-loop-at : goal.invariant-loop-at
invariant-loop-at l = IsFullestBefore l.stages l.at l.number l.most
