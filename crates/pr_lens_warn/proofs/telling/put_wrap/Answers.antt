use Rattle.std.proofs.Common.{ap, decimal}
use Rattle.std.proofs.lemmas.Result.{on_ok_weaker}
use Rattle.pr_lens_warn.specs.Texts.{wrap_text}
use Rattle.pr_lens_warn.proofs.TextLemmas.{three_counted}
use Rattle.pr_lens_warn.proofs.telling.put_wrap.Goals as goal

pub returns : goal.returns
unfolding wrap_text
returns c =
    on_ok_weaker c.put_counted-3.result (λ h. three_counted c.args.message.now.items _ _ _ _ _ _ c.in_ok-put_counted.ensures c.in_ok-put_counted-2.ensures h (ap decimal c.from.ensures)) c.put_counted-3.ensures
