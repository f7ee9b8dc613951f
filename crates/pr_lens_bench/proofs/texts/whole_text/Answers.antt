use Rattle.pr_lens_bench.specs.Texts.{before_text, behind_text}
use Rattle.pr_lens_bench.proofs.CellLemmas.{three_parts}
use Rattle.pr_lens_bench.proofs.texts.whole_text.Goals as goal

pub returns : goal.returns
returns c = three_parts (before_text c.args.design.now c.args.count) c.args.lines.now (behind_text c.args.design.now) c.new-text.ensures.items c.in_ok-put_before.ensures c.in_ok-put_bytes.ensures c.in_ok-put_behind.ensures
