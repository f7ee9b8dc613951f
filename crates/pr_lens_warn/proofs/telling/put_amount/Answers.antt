use Rattle.std.proofs.lemmas.Result.{on_ok_weaker}
use Rattle.pr_lens_warn.specs.Texts.{amount_text}
use Rattle.pr_lens_warn.proofs.TextLemmas.{quoted_counted}
use Rattle.pr_lens_warn.proofs.telling.put_amount.Goals as goal

pub returns : goal.returns
unfolding amount_text
returns c = on_ok_weaker c.put-2.result (λ h. quoted_counted c.args.message.now.items _ _ _ _ _ c.in_ok-put.ensures c.in_ok-put_quoted.ensures c.in_ok-put_counted.ensures h) c.put-2.ensures
