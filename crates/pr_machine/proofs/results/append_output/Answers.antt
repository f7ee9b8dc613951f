use Rattle.std.proofs.Common.{arith, ◌∙◌}
use Rattle.pr_conf.specs.declared.outputs.Tap.TheVariants as Tap
use Rattle.pr_conf.specs.Through.{tap_byte}
use Rattle.pr_machine.specs.Places.{bytes_of}
use Rattle.pr_machine.proofs.Outputs.{taps_more}
use Rattle.pr_machine.proofs.results.append_output.Goals as goal

pub loop-tap-preserved : goal.loop-tap-preserved
loop-tap-preserved g c = record {
  bytes = taps_more (tap_byte g.row.N (bytes_of c.args.row.now)) c.args.taps.now c.loop-tap.tap-index (Tap.Const 0) c.args.into.now.items c.loop-tap.into.items c.push_reserved.new.self.items c.read_tap.result c.loop-tap-test.true c.loop-tap.invariant.bytes c.push_reserved.ensures.items c.read_tap.ensures;
  length = omega (arith, c.push_reserved.ensures.len, c.loop-tap.invariant.length);
  capacity = c.push_reserved.ensures.capacity ∙ c.loop-tap.invariant.capacity;
}
