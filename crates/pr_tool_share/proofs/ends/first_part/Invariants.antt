use Rattle.std.proofs.Common.{◌≡◌, map, drop}
use Rattle.pr_tool_share.specs.Ends.{first_part}
use Rattle.pr_tool_share.specs.Items.{end_of}
use Rattle.pr_tool_share.proofs.ends.first_part.Given as goal

abbrev pub invariant-loop-number : goal.invariant-loop-number
invariant-loop-number l = first_part l.number (map end_of (drop l.number l.items)) ≡ first_part 0 (map end_of l.items)
