use Rattle.std.proofs.Common.{codes}
use Rattle.std.proofs.lemmas.Result.{on_ok_weaker}
use Rattle.pr_lens_bench.specs.Pieces.{told_text}
use Rattle.pr_lens_bench.proofs.CellLemmas.{more_pieces}
use Rattle.pr_lens_bench.proofs.pieces.put_told.Goals as goal

pub returns : goal.returns
unfolding told_text
returns c =
    let name = c.args.port.now.name in
    on_ok_weaker c.put.result (λ h. more_pieces c.args.text.now.items (codes "        $display(\"result %0d: ") name (codes " is %0d, and is to be %0d\", taken + 1, p_") name (codes ", w_") name (codes "[taken]);\n        failed = 1;\n      end\n") c.in_ok-put_named.ensures c.in_ok-put_named-2.ensures c.in_ok-put_named-3.ensures h) c.put.ensures
