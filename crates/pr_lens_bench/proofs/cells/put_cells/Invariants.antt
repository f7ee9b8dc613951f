use Rattle.std.proofs.Common.{◌≡◌, ◌++◌, drop}
use Rattle.pr_lens_bench.specs.Cells.{cells_text}
use Rattle.pr_lens_bench.proofs.cells.put_cells.Given as goal

abbrev pub invariant-loop-i : goal.invariant-loop-i
invariant-loop-i l = l.text.items ++ cells_text l.side l.place (drop l.i l.ports) (drop l.i l.numbers) ≡ l.fn.text.items ++ cells_text l.side l.place l.ports l.numbers
