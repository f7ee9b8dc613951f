use Rattle.std.proofs.Common.{◌≡◌, take, vec_capacity}
use Rattle.pr_machine.specs.Places.{bytes_of}
use Rattle.pr_machine.specs.Results.{bytes_read}
use Rattle.pr_machine.proofs.results.append_outputs.Given as goal

-- the outputs so far
abbrev pub invariant-loop-output : goal.invariant-loop-output
invariant-loop-output g l = record {
  bytes : l.into.items ≡ bytes_read g.row.N (bytes_of l.row) (take l.output-index l.outputs);
  capacity : vec_capacity l.into ≡ vec_capacity l.fn.into;
}
