use Rattle.std.proofs.Common.{◌≡◌, ◌++◌, nat_lt, drop}
use Rattle.pr_base.specs.Rows.{row_line}
use Rattle.pr_samples.specs.Results.{rest_line}
use Rattle.pr_tool_modes.proofs.lines.push_line.Given as goal

abbrev pub invariant-loop-i : goal.invariant-loop-i
invariant-loop-i l = l.text.items ++ rest_line (nat_lt 0 l.i) (drop l.i l.numbers) ≡ l.initial.text.items ++ row_line l.numbers
