use Rattle.std.proofs.Common.{map, length}
use Rattle.pr_tool_share.specs.Entries.{entry_in}
use Rattle.pr_tool_share.proofs.ListReading.{IsRead}
use Rattle.pr_tool_share.proofs.lists.read_list.Given as goal

abbrev pub invariant-loop-rest : goal.invariant-loop-rest
invariant-loop-rest l = IsRead l.text l.rest (map entry_in l.entries.items) l.number

abbrev pub decreases-loop-rest : goal.decreases-loop-rest
decreases-loop-rest l = length l.rest
