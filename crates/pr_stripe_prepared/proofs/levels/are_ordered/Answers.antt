use Rattle.std.proofs.Common.{ℕ, ◌+◌, ◌<◌, List, length, get_or, sym, subst, arith, inl, inr}
use Rattle.std.proofs.lemmas.Bool.{cases_eq}
use Rattle.std.proofs.lemmas.List.{get_or_default}
use Rattle.pr_conf.specs.declared.pes.Pe.{Pe}
use Rattle.pr_stripe_prepared.specs.Rounds.{IsOrdered}
use Rattle.pr_stripe_prepared.proofs.levels.are_ordered.Goals as goal

more : (levels : List ℕ) (rounds k : ℕ) (pes : List Pe) (e : Pe) → k < length pes → IsOrdered levels rounds k (get_or pes k e) → ((j : ℕ) (d : Pe) → j < k → IsOrdered levels rounds j (get_or pes j d))
    → (j : ℕ) (d : Pe) → j < k + 1 → IsOrdered levels rounds j (get_or pes j d)
more levels rounds k pes e lt new old j d h = elim (cases_eq j k) as (λ _. IsOrdered levels rounds j (get_or pes j d)) [
  | inl same ↦ subst (λ i. IsOrdered levels rounds i (get_or pes i d)) (sym same) (subst (IsOrdered levels rounds k) (get_or_default pes k e d lt) new)
  | inr ne ↦ old j d (omega arith)
]

pub loop-k-preserved : goal.loop-k-preserved
loop-k-preserved c = more c.args.levels.now c.args.rounds c.loop-k.k c.args.pes.now _ (omega arith) (c.is_ordered.ensures c.if-not-is_ordered.false) c.loop-k.invariant
