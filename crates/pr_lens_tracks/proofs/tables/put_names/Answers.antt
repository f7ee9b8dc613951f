use Rattle.std.proofs.Common.{[], map, ap, sym, ◌∙◌, arith}
use Rattle.std.proofs.lemmas.List.{get_or-map, length-map}
use Rattle.pr_lens_tracks.specs.Tables.{track_text}
use Rattle.pr_lens_tracks.proofs.TextLemmas.{cell-put, cells-end}
use Rattle.pr_lens_tracks.proofs.tables.put_names.Goals as goal

pub loop-place-preserved : goal.loop-place-preserved
loop-place-preserved c =
    let tracks = c.args.tracks.now in
    let track = c.index-tracks-place.result in
    cell-put (map track_text tracks) c.loop-place.place c.loop-place.text.items _ (track_text track) c.put_name.new.text.items (omega (arith, length-map tracks track_text))
    (ap track_text c.index-tracks-place.is ∙ sym (get_or-map track_text tracks c.loop-place.place track [] (omega arith))) c.loop-place.invariant c.in_ok-put_name.ensures

pub returns : goal.returns
returns c =
    let tracks = c.args.tracks.now in
    cells-end (map track_text tracks) c.loop-place.place c.loop-place.text.items _ c.push.new.self.items (omega (arith, length-map tracks track_text)) c.loop-place.invariant c.in_ok-push.ensures.items
