use Rattle.std.proofs.Common.{◌≡◌, ◌++◌, drop}
use Rattle.pr_lens_chart.specs.Pictures.{columns_text}
use Rattle.pr_lens_chart.proofs.cells.put_cycles.Given as goal

abbrev pub invariant-loop-number : goal.invariant-loop-number
invariant-loop-number l =
    l.text.items ++ columns_text l.totals.stages l.totals.stripes l.number l.board.stages.items (drop l.number l.cycles)
    ≡ l.fn.text.items ++ columns_text l.totals.stages l.totals.stripes 0 l.fn.board.stages.items l.cycles
