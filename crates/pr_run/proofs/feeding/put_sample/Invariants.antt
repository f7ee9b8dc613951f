use Rattle.std.proofs.Common.{◌≡◌, ◌+◌, length, take, drop, sum_by}
use Rattle.pr_base.specs.Numbers.{slices_of}
use Rattle.pr_base.specs.Rows.{row_bytes}
use Rattle.pr_run.proofs.feeding.put_sample.Given as goal

abbrev pub invariant-loop-i : goal.invariant-loop-i
invariant-loop-i l = record {
  done : take l.at l.into ≡ row_bytes (take l.i l.widths) l.numbers;
  left : l.at + sum_by slices_of (drop l.i l.widths) ≡ sum_by slices_of l.widths;
  size : length l.into ≡ length l.fn.into;
}
