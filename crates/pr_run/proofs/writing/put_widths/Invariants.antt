use Rattle.std.proofs.Common.{◌≡◌, length, take}
use Rattle.pr_conf.specs.Configuration.{shape_of}
use Rattle.pr_conf.specs.Through.{output_widths}
use Rattle.pr_run.proofs.writing.put_widths.Given as goal

abbrev pub invariant-loop-i : goal.invariant-loop-i
invariant-loop-i g l = record {
  done : take l.i l.into ≡ take l.i (output_widths (shape_of l.conf));
  size : length l.into ≡ 64;
}
