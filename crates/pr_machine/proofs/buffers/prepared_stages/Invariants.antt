use Rattle.std.proofs.Common.{◌≡◌, ◌-◌, vec_len}
use Rattle.pr_conf.specs.Configuration.{shape_of}
use Rattle.pr_machine.specs.Ready.{AreReady}
use Rattle.pr_machine.proofs.buffers.prepared_stages.Given as goal

abbrev pub invariant-loop-stage : goal.invariant-loop-stage
invariant-loop-stage g l = record {
  ready : AreReady (g.row.P - 1) (shape_of l.conf).stages l.prepared.items;
  count : vec_len l.prepared ≡ l.stage-index;
}
