use Rattle.std.proofs.Common.{◌≡◌, ◌<◌, ℕ, get_or, length}
use Rattle.pr_base.specs.Numbers.{byte_at}
use Rattle.pr_run.proofs.feeding.put_number.Given as goal

abbrev pub invariant-loop-i : goal.invariant-loop-i
invariant-loop-i l = record {
  done : (k : ℕ) → k < l.i → get_or l.into k 0 ≡ byte_at l.n k;
  size : length l.into ≡ length l.fn.into;
  end : l.i-end ≡ length l.fn.into;
}
