use Rattle.std.proofs.lemmas.Result.{on_ok_weaker}
use Rattle.pr_lens_text.proofs.PutLemmas.{four_put}
use Rattle.pr_lens_warn.specs.Texts.{long_text}
use Rattle.pr_lens_warn.proofs.telling.put_long.Goals as goal

pub returns : goal.returns
unfolding long_text
returns c = on_ok_weaker c.put-2.result (λ h. four_put c.args.message.now.items _ _ _ _ c.in_ok-put.ensures c.in_ok-put_quoted.ensures c.in_ok-put_indices.ensures h) c.put-2.ensures
