use Rattle.std.proofs.lemmas.Result.{on_ok_weaker}
use Rattle.pr_lens_text.proofs.PutLemmas.{four_put}
use Rattle.pr_lens_warn.specs.Texts.{function_text}
use Rattle.pr_lens_warn.proofs.telling.put_function.Goals as goal

pub returns : goal.returns
unfolding function_text
returns c = on_ok_weaker c.put-2.result (λ h. four_put c.args.message.now.items _ _ _ _ c.in_ok-put.ensures c.in_ok-put_quoted.ensures c.in_ok-put_line.ensures h) c.put-2.ensures
