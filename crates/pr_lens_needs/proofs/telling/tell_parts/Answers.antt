use Rattle.std.proofs.Common.{◌∙◌, ◌++◌, List, codes, ap}
use Rattle.std.proofs.lemmas.Result.{on_ok_weaker}
use Rattle.pr_lens_needs.specs.declared.takes.Take.{Take}
use Rattle.pr_lens_text.proofs.PutLemmas.{three_put}
use Rattle.pr_lens_needs.specs.Texts.{heading_text, part_text, parts_text, takes_text}
use Rattle.pr_lens_needs.proofs.telling.tell_parts.Goals as goal

pub returns : goal.returns
unfolding parts_text
returns c =
    let parts = c.args.parts.now in
    let takes = c.in_ok-put_takes.ensures ∙ ap (λ (all : List Take). c.put.new.text.items ++ takes_text all) c.deref.ensures.value in
    on_ok_weaker c.put_part.result (λ h. three_put c.args.message.now.items heading_text (takes_text parts.takes.items) (part_text (codes "what is kept") parts.width parts.keeps) c.in_ok-put.ensures takes h) c.put_part.ensures
