use Rattle.std.proofs.Common.{◌≡◌, length, take}
use Rattle.pr_lanes.proofs.copy_known.Given as goal

abbrev pub invariant-loop-i : goal.invariant-loop-i
invariant-loop-i g l = record {
  long : length l.out ≡ g.row.K;
  done : take l.i l.out ≡ take l.i l.row;
}
