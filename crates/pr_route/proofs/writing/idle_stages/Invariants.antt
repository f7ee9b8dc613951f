use Rattle.std.proofs.Common.{◌≡◌, ◌≤◌, ◌-◌, map, replicate, vec_len}
use Rattle.pr_conf.specs.Configuration.{pes_of}
use Rattle.pr_route.specs.Conf.{idle_pe}
use Rattle.pr_route.proofs.writing.idle_stages.Given as goal

abbrev pub invariant-loop-alloc : goal.invariant-loop-alloc
invariant-loop-alloc g l = record {
  so_far : map pes_of l.stages.items ≡ replicate (vec_len l.stages) (replicate g.row.N idle_pe);
  within : vec_len l.stages ≤ l.count;
}

abbrev pub decreases-loop-alloc : goal.decreases-loop-alloc
decreases-loop-alloc g l = l.count - vec_len l.stages
