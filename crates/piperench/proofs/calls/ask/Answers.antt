use Rattle.std.proofs.Common.{subst}
use Rattle.pr_edge.specs.SureSink.{told_of}
use Rattle.pr_edge.specs.Tape.{Tape}
use Rattle.pr_tool.specs.Noted.{GainsNote}
use Rattle.pr_tool.specs.Notes.{note_of}
use Rattle.pr_tool.specs.Words.{asked_by, bounds_in}
use Rattle.piperench.proofs.NoteLemmas.{held_line}
use Rattle.piperench.proofs.calls.ask.Goals as goal

pub returns-clause-note : goal.returns-clause-note
returns-clause-note g c =
    let line = note_of (bounds_in (asked_by c.args.words.now)) c.piperench.result in
    held_line c.piperench.new.note line c.piperench.ensures.short (subst (λ (t : Tape). GainsNote t (told_of c.piperench.new.note) 0 0 line) c.requires c.piperench.ensures.note)
