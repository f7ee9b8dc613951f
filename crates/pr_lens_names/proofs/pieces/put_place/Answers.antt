use Rattle.std.proofs.lemmas.Result.{on_ok_weaker}
use Rattle.pr_lens_names.proofs.PlaceLemmas.{place_put}
use Rattle.pr_lens_names.proofs.pieces.put_place.Goals as goal

pub returns : goal.returns
returns c =
    let source = c.args.source.now in
    on_ok_weaker c.put_counted-2.result (λ h. place_put source.text.now source.tokens.now c.args.token c.start.result c.place_at-place.result c.args.message.now.items c.start.ensures.value c.start.ensures.within c.place_at-place.ensures c.in_ok-put_counted.ensures h) c.put_counted-2.ensures
