use Rattle.std.proofs.Common.{◌∙◌, ap, decimal}
use Rattle.std.proofs.lemmas.Result.{on_ok_weaker}
use Rattle.pr_lens_warn.specs.Texts.{slice_text}
use Rattle.pr_lens_warn.proofs.TextLemmas.{counted_put_as}
use Rattle.pr_lens_warn.proofs.telling.put_slice.Goals as goal

pub returns : goal.returns
unfolding slice_text
returns c =
    on_ok_weaker c.put.result (λ h. counted_put_as c.args.message.now.items _ _ _ c.in_ok-put_counted.ensures h (ap decimal (c.from.ensures ∙ c.saturating_sub.ensures))) c.put.ensures
