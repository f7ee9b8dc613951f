use Rattle.std.proofs.Common.{◌+◌, ◌++◌, List, drop, ap, sym, ◌∙◌, append-nil, arith}
use Rattle.std.specs.Prelude.{option_map}
use Rattle.std.proofs.lemmas.List.{drop_all}
use Rattle.pr_lens_tracks.specs.declared.looks.Track.{Track}
use Rattle.pr_lens_signals.specs.Manners.{track_of}
use Rattle.pr_lens_signals.specs.Reading.{all_looks, tracks_in}
use Rattle.pr_lens_signals.proofs.TrackLemmas.{looks-long, track-put, tracks-long}
use Rattle.pr_lens_signals.proofs.tracks.tracks_of.Goals as goal

pub loop-place-preserved : goal.loop-place-preserved
loop-place-preserved c =
    let s = c.args.showing.now in
    let signed = option_map (λ s. s.now) c.args.signed in
    let place = c.loop-place.place in
    ap (λ (ts : List Track). ts ++ drop (place + 1) (tracks_in signed s)) c.in_ok-push.ensures.items
    ∙ track-put (track_of signed) s.probed.instances.items (all_looks s) place c.loop-place.tracks.items c.index.result.now c.look_at-look.result c.in_ok-track.track
    (omega (arith, c.loop-place-test.true, c.len-place-end.ensures, s.probed.instances.ok.0)) (looks-long s c.requires.ready) c.index.ensures (c.look_at-look.ensures c.look_at-look.result) c.in_ok-track.ensures c.loop-place.invariant

pub returns : goal.returns
returns c =
    let s = c.args.showing.now in
    let signed = option_map (λ s. s.now) c.args.signed in
    let whole = tracks_in signed s in
    let long = tracks-long signed s c.requires.ready in
    sym (append-nil c.loop-place.tracks.items)
    ∙ (ap (λ (ts : List Track). c.loop-place.tracks.items ++ ts) (sym (drop_all c.loop-place.place whole (omega (arith, long, c.loop-place-test.false, c.len-place-end.ensures, s.probed.instances.ok.0)))) ∙ c.loop-place.invariant)
