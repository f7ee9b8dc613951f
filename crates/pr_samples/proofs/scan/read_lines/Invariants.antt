use Rattle.std.proofs.Common.{◌≡◌, ℕ, ◌+◌, ◌-◌, ◌≤◌, List, ◌++◌, drop, length}
use Rattle.pr_samples.specs.Scan.{scan_of, first_line, begun}
use Rattle.pr_samples.proofs.scan.read_lines.Given as goal

abbrev pub invariant-loop-used : goal.invariant-loop-used
invariant-loop-used l = record {
  bound : l.used ≤ length l.bytes;
  first : (more : List ℕ) →
      first_line l.widths (scan_of l.widths l.numbers l.cursor) l.passed (drop l.used l.bytes ++ more)
      ≡ first_line l.widths (scan_of l.widths l.initial.numbers l.initial.cursor) l.initial.passed (l.bytes ++ more);
  passed : l.passed ≤ l.initial.passed + l.used;
  room : l.cursor.done + begun l.cursor.phase ≤ length l.widths;
}

abbrev pub decreases-loop-used : goal.decreases-loop-used
decreases-loop-used l = length l.bytes - l.used
