use Rattle.std.proofs.Common.{◌^◌, ◌<◌, ℕ, get_or}
use Rattle.pr_source_tests.proofs.tests.is_row.Given as goal

abbrev pub invariant-loop-i : goal.invariant-loop-i
invariant-loop-i l = (k : ℕ) → k < l.i → get_or l.numbers k 0 < 2 ^ get_or l.widths k 0
