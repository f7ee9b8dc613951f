use Rattle.std.proofs.Common.{◌++◌, ℕ, get_or, map, ap, sym, ◌∙◌, arith}
use Rattle.std.proofs.lemmas.List.{get_or-map}
use Rattle.pr_lens_tracks.specs.Waves.{change_text, news_text, width_of}
use Rattle.pr_lens_tracks.proofs.TextLemmas.{piece-put}
use Rattle.pr_lens_tracks.proofs.changes.put_changes.Goals as goal

pub loop-place-preserved : goal.loop-place-preserved
loop-place-preserved c =
    let tracks = c.args.tracks.now in
    let before = c.args.before.now in
    let now = c.args.now.now in
    let place = c.loop-place.place in
    let track = c.index-tracks-place.result in
    let width = sym (get_or-map width_of tracks place track 0 (omega (arith, c.requires.tracks))) in
    piece-put (change_text (map width_of tracks) c.args.begun before now) place c.args.text.now.items c.loop-place.text.items c.put_news.new.text.items c.loop-place.invariant
    (c.in_ok-put_news.ensures ∙ ap (λ (w : ℕ). c.loop-place.text.items ++ news_text place w c.args.begun (get_or before place 0) (get_or now place 0)) width)
