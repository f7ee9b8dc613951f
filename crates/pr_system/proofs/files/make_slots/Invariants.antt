use Rattle.std.proofs.Common.{◌-◌, vec_len}
use Rattle.pr_system.proofs.files.make_slots.Given as goal

abbrev pub decreases-loop-alloc : goal.decreases-loop-alloc
decreases-loop-alloc g l = 17 - vec_len l.slots
