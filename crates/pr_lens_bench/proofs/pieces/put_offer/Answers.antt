use Rattle.std.proofs.Common.{codes, decimal}
use Rattle.std.proofs.lemmas.Result.{on_ok_weaker}
use Rattle.pr_lens_bench.specs.Pieces.{offer_text}
use Rattle.pr_lens_bench.proofs.CellLemmas.{more_pieces}
use Rattle.pr_lens_bench.proofs.pieces.put_offer.Goals as goal

pub returns : goal.returns
unfolding offer_text
returns c =
    let name = c.args.port.now.name in
    on_ok_weaker c.put.result (λ h. more_pieces c.args.text.now.items (codes "    p_") name (codes " = in_valid ? s_") name (codes "[offered] : {") (decimal c.args.port.now.width) (codes "{1'b1}};\n") c.in_ok-put_named.ensures c.in_ok-put_named-2.ensures (rw c.from.ensures at c.in_ok-put_counted.ensures) h) c.put.ensures
