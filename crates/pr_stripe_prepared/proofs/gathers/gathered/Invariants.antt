use Rattle.std.proofs.Common.{◌≡◌, ◌<◌, ℕ, length, get_or, drop}
use Rattle.pr_stripe_prepared.specs.Gather.{gathered_byte, with_terms}
use Rattle.pr_stripe_prepared.proofs.gathers.gathered.Given as goal

abbrev pub invariant-loop-term : goal.invariant-loop-term
invariant-loop-term g l = record {
  long : length l.all ≡ 32;
  rest : (k : ℕ) → k < 32 → with_terms k l.row (get_or l.all k 0) (drop l.term-index l.g.terms.items) ≡ gathered_byte l.g l.row l.fn.state l.fn.made k;
}
