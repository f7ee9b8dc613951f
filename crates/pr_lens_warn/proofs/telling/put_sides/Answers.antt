use Rattle.std.proofs.lemmas.Result.{on_ok_weaker}
use Rattle.pr_lens_text.proofs.PutLemmas.{four_put}
use Rattle.pr_lens_warn.specs.Texts.{sides_text}
use Rattle.pr_lens_warn.proofs.telling.put_sides.Goals as goal

pub returns : goal.returns
unfolding sides_text
returns c = on_ok_weaker c.put_side-2.result (λ h. four_put c.args.message.now.items _ _ _ _ c.in_ok-put_answer.ensures c.in_ok-put_side.ensures c.in_ok-put.ensures h) c.put_side-2.ensures
