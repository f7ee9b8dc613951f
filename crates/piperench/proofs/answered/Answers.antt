use Rattle.std.proofs.Common.{List, ℕ, subst}
use Rattle.pr_tool.specs.Noted.{GainsNote}
use Rattle.pr_tool.specs.Notes.{note_of}
use Rattle.pr_tool.specs.Words.{Asked, bounds_in}
use Rattle.piperench.proofs.NoteLemmas.{asked_is, refused_line}
use Rattle.piperench.proofs.answered.Goals as goal

pub returns-in-Ok-clause-note : goal.returns-in-Ok-clause-note
returns-in-Ok-clause-note g c =
    let asked = asked_is c.args.given c.in-Ok.words c.deref.result.now c.in-Ok.is c.deref.ensures.value in
    subst (λ (a : Asked). GainsNote (g.E.Sink.view c.args.stderr.now).told (g.E.Sink.view c.answer_to.new.stderr).told (g.E.Sink.view c.args.stderr.now).faults (g.E.Sink.view c.answer_to.new.stderr).faults (note_of (bounds_in a) c.answer_to.result)) asked c.answer_to.ensures.note

pub returns-in-Err-clause-note : goal.returns-in-Err-clause-note
returns-in-Err-clause-note g c =
    let line = refused_line c.args.given c.in-Err.fault c.refusal_of.result c.refuse.result c.in-Err.is c.refuse.ensures.answer in
    subst (λ (t : List ℕ). GainsNote (g.E.Sink.view c.args.stderr.now).told (g.E.Sink.view c.refuse.new.stderr).told (g.E.Sink.view c.args.stderr.now).faults (g.E.Sink.view c.refuse.new.stderr).faults t) line c.refuse.ensures.note
