use Rattle.std.proofs.Common.{◌≡◌, ◌++◌}
use Rattle.pr_lens_chart.specs.Pictures.{stripe_cells}
use Rattle.pr_lens_chart.proofs.cells.put_stripes.Given as goal

abbrev pub invariant-loop-stripe : goal.invariant-loop-stripe
invariant-loop-stripe l = l.text.items ≡ l.fn.text.items ++ stripe_cells l.stripe l.board.stages.items l.logged.turn l.totals.stages l.x
