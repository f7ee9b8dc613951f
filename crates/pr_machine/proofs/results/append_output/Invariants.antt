use Rattle.std.proofs.Common.{◌≡◌, ◌+◌, ◌++◌, map, take, vec_len, vec_capacity}
use Rattle.pr_conf.specs.Through.{tap_byte}
use Rattle.pr_machine.specs.Places.{bytes_of}
use Rattle.pr_machine.proofs.results.append_output.Given as goal

abbrev pub invariant-loop-tap : goal.invariant-loop-tap
invariant-loop-tap g l = record {
  bytes : l.into.items ≡ l.fn.into.items ++ map (tap_byte g.row.N (bytes_of l.row)) (take l.tap-index l.taps);
  length : vec_len l.into ≡ vec_len l.fn.into + l.tap-index;
  capacity : vec_capacity l.into ≡ vec_capacity l.fn.into;
}
