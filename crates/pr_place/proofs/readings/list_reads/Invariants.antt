use Rattle.std.proofs.Common.{◌≡◌, ◌++◌, drop}
use Rattle.pr_place.specs.Numbering.{group_reads_of}
use Rattle.pr_place.proofs.readings.list_reads.Given as goal

abbrev pub invariant-loop-member : goal.invariant-loop-member
invariant-loop-member l = l.reads.items ++ group_reads_of l.units l.first l.owner l.group (drop l.member-index l.members) ≡ l.fn.reads.items ++ group_reads_of l.units l.first l.owner l.group l.members
