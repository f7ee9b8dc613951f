use Rattle.std.proofs.Common.{[], get_or, sym, arith}
use Rattle.std.specs.Simd.Lanes.{zip2}
use Rattle.std.proofs.lemmas.Simd.{get_or-zip2, length-zip2}
use Rattle.pr_lens_tracks.specs.Tables.{cell_text}
use Rattle.pr_lens_tracks.proofs.TextLemmas.{cell-put, cells-end}
use Rattle.pr_lens_tracks.proofs.tables.put_numbers.Goals as goal

pub loop-place-preserved : goal.loop-place-preserved
loop-place-preserved c =
    let tracks = c.args.tracks.now in
    let numbers = c.args.numbers.now in
    let place = c.loop-place.place in
    let track = c.index-tracks-place.result in
    cell-put (zip2 cell_text tracks numbers) place c.loop-place.text.items _ (cell_text (get_or tracks place track) (get_or numbers place 0)) c.put_cell.new.text.items
    (omega (arith, length-zip2 cell_text tracks numbers c.requires, c.requires)) (sym (get_or-zip2 cell_text tracks numbers place track 0 [] (omega (arith, c.requires)) (omega arith))) c.loop-place.invariant
    c.in_ok-put_cell.ensures

pub returns : goal.returns
returns c =
    let tracks = c.args.tracks.now in
    let numbers = c.args.numbers.now in
    cells-end (zip2 cell_text tracks numbers) c.loop-place.place c.loop-place.text.items _ c.push.new.self.items (omega (arith, length-zip2 cell_text tracks numbers c.requires, c.requires)) c.loop-place.invariant
    c.in_ok-push.ensures.items
