use Rattle.std.proofs.Common.{lit<, arith, ◌∙◌, vec_len, vec_capacity}
use Rattle.pr_machine.specs.Places.{bytes_of}
use Rattle.pr_machine.proofs.Outputs.{taps_lawful, room_left, outputs_more}
use Rattle.pr_machine.proofs.results.append_outputs.Goals as goal

pub append_output-requires : goal.append_output-requires
append_output-requires g c = (
  lit< tt,
  (
    taps_lawful g.row.N g.row.P c.args.outputs.now c.loop-output.output-index c.output-item.result c.deref.result.now c.requires.lawful c.loop-output-test.true c.output-item.is c.deref.ensures.value,
    room_left g.row.N g.row.P (bytes_of c.args.row.now) c.args.outputs.now c.loop-output.output-index c.output-item.result c.loop-output.into.items c.deref.result.now (vec_len c.loop-output.into) (vec_capacity c.loop-output.into) c.requires.lawful c.loop-output-test.true c.output-item.is c.deref.ensures.value c.loop-output.invariant.bytes (omega (arith, c.loop-output.into.ok.0)) (omega (arith, c.requires.room, c.loop-output.invariant.capacity)),
  ),
)

pub loop-output-preserved : goal.loop-output-preserved
loop-output-preserved g c = record {
  bytes = outputs_more g.row.N (bytes_of c.args.row.now) c.args.outputs.now c.loop-output.output-index c.output-item.result c.loop-output.into.items c.append_output.new.into.items c.deref.result.now c.loop-output-test.true c.output-item.is c.deref.ensures.value c.loop-output.invariant.bytes c.append_output.ensures.bytes;
  capacity = c.append_output.ensures.capacity ∙ c.loop-output.invariant.capacity;
}
