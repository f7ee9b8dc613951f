use Rattle.std.proofs.Common.{◌≡◌, ℕ, ◌+◌, ◌-◌, ◌≤◌, List, ◌++◌, drop, length}
use Rattle.pr_samples.specs.Scan.{scan_of, first_line, begun}
use Rattle.pr_samples.proofs.scan.read_line.Given as goal

abbrev pub invariant-loop-at : goal.invariant-loop-at
invariant-loop-at l = record {
  bound : l.at ≤ length l.bytes;
  scan : (passed : ℕ) (more : List ℕ) →
      first_line l.widths (scan_of l.widths l.numbers l.cursor) passed (drop l.at l.bytes ++ more)
      ≡ first_line l.widths (scan_of l.widths l.initial.numbers l.initial.cursor) passed (l.bytes ++ more);
  room : l.cursor.done + begun l.cursor.phase ≤ length l.widths;
}

abbrev pub decreases-loop-at : goal.decreases-loop-at
decreases-loop-at l = length l.bytes - l.at
