use Rattle.std.proofs.Common.{◌≡◌, ℕ, ◌≤◌, List, ◌++◌, drop, length}
use Rattle.pr_samples.specs.Scan.{scan_of, first_line, fresh}
use Rattle.pr_samples.proofs.ItemLemmas.{before_number}
use Rattle.pr_samples.proofs.items.front_line.Given as goal

abbrev pub invariant-loop-i : goal.invariant-loop-i
invariant-loop-i l = record {
  within : l.at ≤ length l.bytes;
  read : (passed : ℕ) (more : List ℕ) →
      first_line l.widths (fresh l.widths) passed (l.bytes ++ more)
      ≡ first_line l.widths (scan_of l.widths l.numbers (before_number l.i)) passed (drop l.at l.bytes ++ more);
}
