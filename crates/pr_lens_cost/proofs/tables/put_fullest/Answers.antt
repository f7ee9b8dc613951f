use Rattle.std.proofs.Common.{codes, decimal}
use Rattle.std.proofs.lemmas.Result.{on_ok_weaker}
use Rattle.pr_lens_cost.specs.Texts.{fullest_text}
use Rattle.pr_lens_cost.proofs.TextLemmas.{seven_put}
use Rattle.pr_lens_cost.proofs.tables.put_fullest.Goals as goal

pub returns : goal.returns
unfolding fullest_text
returns c = on_ok_weaker c.put.result (λ h. seven_put c.args.text.now.items (codes "fullest stage ") (decimal c.args.number) (codes ", with ") (decimal c.args.cells) (codes " of ") (decimal c.args.columns) (codes " columns in use\n") c.in_ok-put_counted.ensures c.in_ok-put_counted-2.ensures c.in_ok-put_counted-3.ensures h) c.put.ensures
