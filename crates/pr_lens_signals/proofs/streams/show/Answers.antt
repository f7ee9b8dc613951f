use Rattle.std.proofs.Common.{refl, inl, inr, ◌∙◌, sym, subst}
use Rattle.pr_tool_answers.specs.declared.answers.Answer.{Answer}
use Rattle.pr_tool_modes.specs.Files.{ShowsFault}
use Rattle.pr_lens_signals.specs.Calls.{call}
use Rattle.pr_lens_signals.specs.Signals.{IsShown}
use Rattle.pr_lens_signals.proofs.SignalLemmas.{fault-shown, shown-cut, shown-nameless, shown-read, write-earlier}
use Rattle.pr_lens_signals.proofs.streams.show.Goals as goal

pub returns-in-Err-clause-shown : goal.returns-in-Err-clause-shown
returns-in-Err-clause-shown g c = λ manner program lawful is. inl refl

pub returns-in-Err-put_start-clause-shown : goal.returns-in-Err-put_start-clause-shown
returns-in-Err-put_start-clause-shown g c = λ manner program lawful is.
    shown-nameless manner program c.args.showing.now c.args.pen lawful is (g.S.Shelf.view c.args.shelf.now).told c.args.samples.now c.in-Ok.start.work.feed c.in-Ok.ensures.feed c.in-Ok.ensures.name _ _ _ _ _ _ c.in-Err-put_start.answer
    (rw c.in-Ok.ensures.pen at c.in-Err-put_start.ensures.front) c.in-Err-put_start.ensures.cause

pub returns-in-Ok-put_rows-clause-shown : goal.returns-in-Ok-put_rows-clause-shown
returns-in-Ok-put_rows-clause-shown g c = λ manner program lawful is.
    let told = (g.S.Shelf.view c.args.shelf.now).told in
    let name = c.in-Ok.ensures.name in
    let k = call told (g.S.Shelf.view c.args.shelf.now).faults (g.S.Shelf.view c.put_rows.new.shelf).faults (g.K.Sink.view c.args.out.now).told (g.K.Sink.view c.put_rows.new.out).told (g.K.Sink.view c.args.out.now).faults (g.K.Sink.view c.put_rows.new.out).faults in
    subst (λ (a : Answer). IsShown manner c.args.samples.now program k a) (sym c.answer_of.ensures)
    (shown-read manner program c.args.showing.now c.args.pen lawful is told c.args.samples.now c.in-Ok.start.work.feed c.put_rows.new.work.feed c.in-Ok.ensures.feed (c.put_rows.ensures.file.name ∙ name) _ _ _ _ _ _ (g.K.Sink.view c.put_start.new.out).told
    c.in-Ok-put_rows.end (rw c.in-Ok.ensures.pen at c.in-Ok-put_start.ensures.all) (rw c.in-Ok.ensures.pen at c.in-Ok-put_rows.ensures.ended) (λ other missing. c.in-Ok-put_rows.ensures.there other (rw (← name) at missing))
    (λ fault. rw name at (c.in-Ok-put_rows.ensures.read fault)) (rw c.in-Ok.ensures.pen at c.in-Ok-put_rows.ensures.begun))

pub returns-clause-shown : goal.returns-clause-shown
returns-clause-shown g c = λ manner program lawful is.
    shown-cut manner program c.args.showing.now c.args.pen lawful is (g.S.Shelf.view c.args.shelf.now).told c.args.samples.now c.in-Ok.start.work.feed c.put_rows.new.work.feed c.in-Ok.ensures.feed (c.put_rows.ensures.file.name ∙ c.in-Ok.ensures.name) _ _ _ _ _ _
    (g.K.Sink.view c.put_start.new.out).told c.in-Err-put_rows.answer (rw c.in-Ok.ensures.pen at c.in-Ok-put_start.ensures.all) (rw c.in-Ok.ensures.pen at c.in-Err-put_rows.ensures.cut)
    (write-earlier _ _ _ c.in-Err-put_rows.answer c.put_start.ensures.later c.in-Err-put_rows.ensures.cause)

pub returns-in-Ok-put_rows-clause-fault : goal.returns-in-Ok-put_rows-clause-fault
returns-in-Ok-put_rows-clause-fault g c =
    subst (λ (a : Answer). ShowsFault (g.S.Shelf.view c.args.shelf.now).faults (g.S.Shelf.view c.put_rows.new.shelf).faults a) (sym c.answer_of.ensures)
    (fault-shown c.in-Ok-put_rows.end (g.S.Shelf.view c.args.shelf.now).faults (g.S.Shelf.view c.put_rows.new.shelf).faults c.in-Ok-put_rows.ensures.steady)

pub returns-clause-fault : goal.returns-clause-fault
returns-clause-fault g c = inr c.in-Err-put_rows.ensures.kept
