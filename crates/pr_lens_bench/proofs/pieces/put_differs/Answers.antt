use Rattle.std.proofs.Common.{codes}
use Rattle.std.proofs.lemmas.Result.{on_ok_weaker}
use Rattle.pr_lens_bench.specs.Pieces.{differs_text}
use Rattle.pr_lens_bench.proofs.CellLemmas.{named_pieces}
use Rattle.pr_lens_bench.proofs.pieces.put_differs.Goals as goal

pub returns : goal.returns
unfolding differs_text
returns c =
    let name = c.args.port.now.name in
    on_ok_weaker c.put.result (λ h. named_pieces c.args.text.now.items (codes "      if (p_") name (codes " !== w_") name (codes "[taken]) begin\n") c.in_ok-put_named.ensures c.in_ok-put_named-2.ensures h) c.put.ensures
