use Rattle.std.proofs.Common.{refl, ap, ◌∙◌}
use Rattle.std.specs.Prelude.{Vec}
use Rattle.std.specs.declared.alloc.Global.{Global}
use Rattle.pr_lens_tracks.specs.declared.looks.Track.{Track}
use Rattle.pr_lens_signals.specs.Manners.{manner_of}
use Rattle.pr_lens_signals.proofs.TrackLemmas.{foreign-is, named-are, pen-is}
use Rattle.pr_lens_signals.proofs.streams.signals.Goals as goal

pub returns-in-Some-clause-foreign : goal.returns-in-Some-clause-foreign
returns-in-Some-clause-foreign g c =
    let manner = manner_of c.args.style.now in
    foreign-is manner c.args.front.scoped.program c.in-Ok.showing c.in-Ok.ensures.ready c.in-Ok.ensures.shows.shows.instances c.deref.result.now (c.deref.ensures.value ∙ c.in-Ok-tracks_of.ensures) manner.signed c.in-Some.place refl c.in-Some.ensures.some

pub show-requires-clause-pen : goal.show-requires-clause-pen
show-requires-clause-pen g c =
    let manner = manner_of c.args.style.now in
    pen-is manner.signed c.in-Ok.showing c.in-Ok-make.pen c.in-Ok-tracks_of.tracks c.in-Ok.ensures.ready c.in-Ok-tracks_of.ensures c.in-Ok-make.ensures.tracks c.in-Ok-make.ensures.before c.in-Ok-make.ensures.written

pub returns-in-Ok-make-clause-shown : goal.returns-in-Ok-make-clause-shown
returns-in-Ok-make-clause-shown g c =
    let manner = manner_of c.args.style.now in
    let program = c.args.front.scoped.program in
    c.show.ensures.shown manner program c.args.front.scoped.lawful (record {
      showing = c.in-Ok.ensures.shows;
      named = named-are manner program c.in-Ok.showing c.in-Ok.ensures.ready c.in-Ok.ensures.shows.shows.instances c.deref.result.now (c.deref.ensures.value ∙ c.in-Ok-tracks_of.ensures) c.in_default.ensures.none;
      form = c.in-Ok-make.ensures.form;
      tracks = ap (λ (v : Vec Track Global). v.items) c.in-Ok-make.ensures.tracks ∙ c.in-Ok-tracks_of.ensures;
    })
