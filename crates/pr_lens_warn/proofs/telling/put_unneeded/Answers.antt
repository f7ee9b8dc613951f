use Rattle.std.proofs.lemmas.Result.{on_ok_weaker}
use Rattle.pr_lens_text.proofs.PutLemmas.{three_put}
use Rattle.pr_lens_warn.specs.Texts.{unneeded_text}
use Rattle.pr_lens_warn.proofs.telling.put_unneeded.Goals as goal

pub returns : goal.returns
unfolding unneeded_text
returns c = on_ok_weaker c.put-2.result (λ h. three_put c.args.message.now.items _ _ _ c.in_ok-put.ensures c.in_ok-put_quoted.ensures h) c.put-2.ensures
