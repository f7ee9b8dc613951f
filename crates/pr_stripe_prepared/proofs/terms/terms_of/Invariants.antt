use Rattle.std.proofs.Common.{◌≡◌, ◌+◌, ◌*◌, ◌<◌, ◌≤◌, ℕ, All, List, get_or, bit_or, nat_lt, if◌then◌else◌}
use Rattle.pr_stripe_prepared.specs.declared.stages.Term.{Term}
use Rattle.pr_stripe_prepared.specs.Gather.{with_terms}
use Rattle.pr_stripe_prepared.proofs.terms.terms_of.Given as goal

abbrev pub invariant-loop-block : goal.invariant-loop-block
invariant-loop-block l = record {
  inside : All (λ (t : Term). t.from + 16 ≤ l.blocks * 16) l.terms.items;
  gives : (k x : ℕ) (row : List ℕ) → k < 32 → with_terms k row x l.terms.items ≡ (if nat_lt (get_or l.places k 0) (l.block * 16) then bit_or x (get_or row (get_or l.places k 0) 0) else x);
}
