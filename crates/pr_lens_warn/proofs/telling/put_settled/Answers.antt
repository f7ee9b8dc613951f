use Rattle.std.proofs.lemmas.Result.{on_ok_weaker}
use Rattle.pr_lens_text.proofs.PutLemmas.{two_put}
use Rattle.pr_lens_warn.specs.Texts.{settled_text}
use Rattle.pr_lens_warn.proofs.telling.put_settled.Goals as goal

pub returns : goal.returns
unfolding settled_text
returns c = on_ok_weaker c.put.result (λ h. two_put c.args.message.now.items _ _ c.in_ok-put_sides.ensures h) c.put.ensures
