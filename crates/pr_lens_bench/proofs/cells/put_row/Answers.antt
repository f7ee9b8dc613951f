use Rattle.std.proofs.Common.{codes}
use Rattle.std.proofs.lemmas.Result.{on_ok_weaker}
use Rattle.pr_lens_text.proofs.PutLemmas.{four_put}
use Rattle.pr_lens_bench.proofs.CellLemmas.{four_more}
use Rattle.pr_lens_bench.proofs.cells.put_row.Goals as goal

pub returns-clause-line : goal.returns-clause-line
returns-clause-line c =
    on_ok_weaker c.put-2.result (λ h. four_put c.args.text.now.items (codes "   ") _ _ (codes "\n") c.in_ok-put.ensures
    (rw c.deref.ensures.value at c.in_ok-put_cells.ensures) (rw c.deref-2.ensures.value at c.in_ok-put_cells-2.ensures) h) c.put-2.ensures

pub returns-clause-more : goal.returns-clause-more
returns-clause-more c =
    on_ok_weaker c.put-2.result (λ h. four_more c.args.text.now.items _ _ _ c.in_ok-put.ensures c.in_ok-put_cells.ensures c.in_ok-put_cells-2.ensures h) c.put-2.ensures
