use Rattle.std.proofs.Common.{codes, decimal}
use Rattle.std.proofs.lemmas.Result.{on_ok_weaker}
use Rattle.pr_lens_bench.specs.Texts.{head_text}
use Rattle.pr_lens_bench.proofs.CellLemmas.{named_pieces}
use Rattle.pr_lens_bench.proofs.texts.put_head.Goals as goal

pub returns : goal.returns
unfolding head_text
returns c =
    on_ok_weaker c.put.result (λ h. named_pieces c.args.text.now.items _ (decimal c.args.count) (codes ", dice = 32'd") (decimal c.args.seed) (codes ";\n") c.in_ok-put_counted.ensures c.in_ok-put_counted-2.ensures h) c.put.ensures
