use Rattle.std.proofs.Common.{◌≡◌, ℕ, ◌<◌, ◌≤◌, true, length}
use Rattle.pr_machine.specs.Places.{place_at, spots_of, rows_of, is_bare}
use Rattle.pr_machine.specs.Emptying.{IsEmptied}
use Rattle.pr_machine.proofs.emptying.empty_all.Given as goal

-- the stripes so far were emptied, and each other is as it was
abbrev pub invariant-loop-at : goal.invariant-loop-at
invariant-loop-at g l = record {
  rows : (s : ℕ) → s < length l.fn.store → IsEmptied l.at (spots_of l.fn.places) s (rows_of l.fn.store s) (rows_of l.store s);
  bare : (i : ℕ) → i < l.at → is_bare (place_at l.places i) ≡ true;
  rest : (i : ℕ) → l.at ≤ i → place_at l.places i ≡ place_at l.fn.places i;
  size : length l.store ≡ length l.fn.store;
}
