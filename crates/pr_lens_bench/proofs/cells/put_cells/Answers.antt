use Rattle.std.proofs.Common.{arith}
use Rattle.pr_lens_bench.proofs.CellLemmas.{cells_done}
use Rattle.pr_lens_bench.proofs.cells.put_cells.Goals as goal

pub returns : goal.returns
returns c = cells_done c.args.side c.args.place c.args.ports.now c.args.numbers.now c.loop-i.i c.loop-i.text.items _ (omega (arith, c.min-i-end.ensures, c.loop-i-test.false)) c.loop-i.invariant
