use Rattle.std.proofs.Common.{arith, inr, subst, sym}
use Rattle.std.proofs.lemmas.List.{length-take-le}
use Rattle.pr_lens_tool.specs.declared.outcomes.Outcome.{Outcome}
use Rattle.pr_lens_tool.specs.Logs.{IsNoLog}
use Rattle.pr_lens_tool.proofs.LogLemmas.{line_refused, read_bad, read_on}
use Rattle.pr_lens_tool.proofs.logs.read_more.Goals as goal

pub returns-in-Ok-read-clause-read : goal.returns-in-Ok-read-clause-read
returns-in-Ok-read-clause-read g c =
    read_on (g.S.Shelf.view c.args.shelf.now).told c.args.name.now c.args.place c.args.reader.now c.requires.read (λ missing. let fault = (c.in-Ok.ensures.missing missing).0 in cc) c.in-Ok.count c.read_at.new.buf
    c.in-Ok.ensures.part c.in-Ok.ensures.bound c.read.new.self c.in-Ok-read.ensures.read

pub returns-in-Ok-read-clause-room : goal.returns-in-Ok-read-clause-room
returns-in-Ok-read-clause-room g c = λ more h.
    c.in-Ok-read.ensures.room more (record { few = h.few; room = omega (arith, h.room, length-take-le c.in-Ok.count c.read_at.new.buf c.in-Ok.ensures.bound) })

pub returns-in-Err-read-clause-refused : goal.returns-in-Err-read-clause-refused
returns-in-Err-read-clause-refused g c =
    let bad = read_bad (g.S.Shelf.view c.args.shelf.now).told c.args.name.now c.args.place c.args.reader.now c.requires.read (λ missing. let fault = (c.in-Ok.ensures.missing missing).0 in cc) c.in-Ok.count c.read_at.new.buf
    c.in-Ok.ensures.part c.in-Ok.ensures.bound c.in-Err-read.fault c.in-Err-read.ensures.refused in
    subst (λ (o : Outcome). IsNoLog (g.S.Shelf.view c.args.shelf.now).told c.args.name.now (g.S.Shelf.view c.args.shelf.now).faults (g.S.Shelf.view c.read_at.new.self).faults o) (sym c.from.ensures)
    (line_refused (g.S.Shelf.view c.args.shelf.now).told c.args.name.now (g.S.Shelf.view c.args.shelf.now).faults (g.S.Shelf.view c.read_at.new.self).faults c.in-Err-read.fault bad)

pub returns-in-Err-read-clause-shown : goal.returns-in-Err-read-clause-shown
returns-in-Err-read-clause-shown g c = inr (inr c.in-Ok.ensures.steady)
