use Rattle.std.proofs.lemmas.Result.{on_ok_weaker}
use Rattle.pr_lens_warn.specs.Texts.{unsigned_text}
use Rattle.pr_lens_warn.proofs.TextLemmas.{counted_put}
use Rattle.pr_lens_warn.proofs.telling.put_unsigned.Goals as goal

pub returns : goal.returns
unfolding unsigned_text
returns c = on_ok_weaker c.put.result (λ h. counted_put c.args.message.now.items _ _ _ c.in_ok-put_counted.ensures h) c.put.ensures
