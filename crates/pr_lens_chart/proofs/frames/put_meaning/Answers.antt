use Rattle.std.proofs.Common.{◌∙◌, ◌++◌, ℕ, ap, codes}
use Rattle.std.proofs.lemmas.Result.{on_ok_weaker}
use Rattle.pr_lens_chart.specs.Charts.{words_text}
use Rattle.pr_lens_chart.specs.Pictures.{legend_words, lower}
use Rattle.pr_lens_chart.proofs.PictureLaws.{both_put}
use Rattle.pr_lens_chart.proofs.frames.put_meaning.Goals as goal

pub returns : goal.returns
unfolding legend_words
returns c =
    let first = words_text (codes "t") 8 c.args.y (codes "dark: the stage comes into the stripe; pale: it computes; a black corner: the state of the stage") in
    let second = λ (y : ℕ). words_text (codes "t") 8 y (codes "before is saved; grey: the cycle is stalled, and nothing moves") in
    on_ok_weaker c.put_words-2.result (λ h. both_put c.args.text.now.items first (second (lower c.args.y 18)) c.in_ok-put_words.ensures (h ∙ ap (λ (y : ℕ). c.put_words.new.text.items ++ second y) c.saturating_add.ensures)) c.put_words-2.ensures
