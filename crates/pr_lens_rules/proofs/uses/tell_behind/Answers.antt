use Rattle.std.proofs.Common.{codes}
use Rattle.std.proofs.lemmas.Result.{on_ok_weaker}
use Rattle.pr_lens_names.specs.Pieces.{place_text}
use Rattle.pr_lens_rules.specs.Uses.{behind_text}
use Rattle.pr_lens_text.proofs.PutLemmas.{three_put}
use Rattle.pr_lens_rules.proofs.uses.tell_behind.Goals as goal

pub returns : goal.returns
unfolding behind_text
returns c =
    let source = c.args.source.now in
    on_ok_weaker c.put-2.result (λ h. three_put c.args.message.now.items (codes "The `rec` at ") (place_text source.text.now source.tokens.now c.args.first) (codes " assigns this name. Move this behind it, or, where that `rec` needs it, write it into its body.\n") c.in_ok-put.ensures c.in_ok-put_place.ensures h) c.put-2.ensures
