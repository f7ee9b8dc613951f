use Rattle.std.proofs.Common.{◌≡◌, ◌∙◌, List, ℕ, sym, subst, inl, inr}
use Rattle.pr_edge.specs.SureSink.{bytes_of}
use Rattle.pr_tool.specs.Noted.{GainsNote}
use Rattle.pr_tool.specs.Words.{asked_by, bounds_in}
use Rattle.pr_tool_answers.specs.declared.answers.Answer.{Answer}
use Rattle.pr_system.specs.Gathering.{are_through}
use Rattle.piperench.proofs.NoteLemmas.{settled_usage, settled_wrong, line_is, memory_line}
use Rattle.piperench.proofs.answer_to.Goals as goal

pub returns-in-Ok-clause-usage : goal.returns-in-Ok-clause-usage
returns-in-Ok-clause-usage g c = λ is. (
    let called = c.in-Ok.called in
    c.in-Ok.ensures.usage (settled_usage called.told (are_through called.last) (sym c.report.ensures.answer ∙ is)))

pub returns-in-Ok-clause-wrong : goal.returns-in-Ok-clause-wrong
returns-in-Ok-clause-wrong g c = λ none. (
    let called = c.in-Ok.called in
    settled_wrong called.told c.report.result (are_through called.last) c.report.ensures.answer (c.in-Ok.ensures.wrong none))

pub returns-in-Ok-clause-note : goal.returns-in-Ok-clause-note
returns-in-Ok-clause-note g c =
    let called = c.in-Ok.called in
    let line = line_is (bounds_in (asked_by c.args.words.now)) called.told c.report.result (are_through called.last) (bytes_of called.note) c.in-Ok.ensures.note c.report.ensures.answer in
    subst (λ (t : List ℕ). GainsNote (g.E.Sink.view c.args.stderr.now).told (g.E.Sink.view c.report.new.stderr).told (g.E.Sink.view c.args.stderr.now).faults (g.E.Sink.view c.report.new.stderr).faults t) line c.report.ensures.note

pub returns-in-Err-clause-usage : goal.returns-in-Err-clause-usage
returns-in-Err-clause-usage g c = λ is. absurd (let no : Answer.Memory ≡ Answer.Usage = sym (c.refuse.ensures.answer ∙ c.in-Err.ensures.refused) ∙ is in cc)

pub returns-in-Err-clause-wrong : goal.returns-in-Err-clause-wrong
returns-in-Err-clause-wrong g c = λ none. inr (inl (c.refuse.ensures.answer ∙ c.in-Err.ensures.refused))

pub returns-in-Err-clause-note : goal.returns-in-Err-clause-note
returns-in-Err-clause-note g c =
    let line = memory_line (bounds_in (asked_by c.args.words.now)) c.in-Err.answer c.refuse.result c.in-Err.ensures.refused c.refuse.ensures.answer in
    subst (λ (t : List ℕ). GainsNote (g.E.Sink.view c.args.stderr.now).told (g.E.Sink.view c.refuse.new.stderr).told (g.E.Sink.view c.args.stderr.now).faults (g.E.Sink.view c.refuse.new.stderr).faults t) line c.refuse.ensures.note
