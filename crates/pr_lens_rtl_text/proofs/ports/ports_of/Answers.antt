use Rattle.std.proofs.Common.{arith}
use Rattle.pr_lens_rtl_text.proofs.PortLemmas.{zipped_done}
use Rattle.pr_lens_rtl_text.proofs.ports.ports_of.Goals as goal

pub returns : goal.returns
returns c = zipped_done c.args.names.now c.args.widths.now c.loop-i.i c.loop-i.ports.items _ (omega (arith, c.min-i-end.ensures, c.loop-i-test.false)) c.loop-i.invariant
