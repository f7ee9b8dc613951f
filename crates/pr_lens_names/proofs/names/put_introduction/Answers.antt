use Rattle.std.proofs.Common.{codes}
use Rattle.std.proofs.lemmas.Result.{on_ok_weaker}
use Rattle.pr_lens_names.specs.Names.{introduction_text, sort_text}
use Rattle.pr_lens_names.specs.Pieces.{place_text, token_text}
use Rattle.pr_lens_text.proofs.PutLemmas.{six_put}
use Rattle.pr_lens_names.proofs.names.put_introduction.Goals as goal

pub returns : goal.returns
unfolding introduction_text
returns c =
    let source = c.args.source.now in
    on_ok_weaker c.put-4.result (λ h. six_put c.args.message.now.items (token_text source.text.now source.tokens.now c.args.token) (codes " is ") (sort_text c.args.introduction.sort) (codes ", introduced at ") (place_text source.text.now source.tokens.now c.args.introduction.token) (codes ".\n")
    c.in_ok-put_quoted.ensures c.in_ok-put.ensures (rw c.as_str.ensures at c.in_ok-put-2.ensures) c.in_ok-put-3.ensures c.in_ok-put_place.ensures h) c.put-4.ensures
