use Rattle.std.proofs.Common.{◌∙◌, ◌++◌, List, ℕ, codes, decimal, refl, ap}
use Rattle.std.proofs.lemmas.Result.{on_ok_weaker}
use Rattle.pr_lens_text.proofs.PutLemmas.{four_put}
use Rattle.pr_lens_needs.specs.Texts.{stage_text, wide_text}
use Rattle.pr_lens_needs.proofs.telling.put_stage.Goals as goal

pub returns : goal.returns
unfolding stage_text
returns c =
    let word = ap (λ (words : List ℕ). c.put_counted.new.text.items ++ words) c.wide_text.ensures in
    on_ok_weaker c.put.result (λ h. four_put c.args.message.now.items (decimal c.args.needed) (codes " columns, where a stage has ") (decimal c.args.columns) (wide_text c.args.columns) c.in_ok-put_number.ensures refl c.in_ok-put_counted.ensures (h ∙ word)) c.put.ensures
