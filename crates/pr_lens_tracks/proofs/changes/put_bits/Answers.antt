use Rattle.std.proofs.Common.{◌-◌, arith}
use Rattle.pr_lens_tracks.proofs.TextLemmas.{bit-put, bits-end}
use Rattle.pr_lens_tracks.proofs.changes.put_bits.Goals as goal

pub loop-left-preserved : goal.loop-left-preserved
loop-left-preserved c =
    bit-put c.loop-left.left (c.loop-left.left - 1) c.args.number c.loop-left.text.items _ c.push.new.self.items c.bit_digit.result (omega (arith, c.loop-left-test.true)) c.bit_digit.ensures c.loop-left.invariant
    c.in_ok-push.ensures.items

pub returns : goal.returns
returns c = bits-end c.loop-left.left c.args.number c.loop-left.text.items _ c.loop-left-test.false c.loop-left.invariant
