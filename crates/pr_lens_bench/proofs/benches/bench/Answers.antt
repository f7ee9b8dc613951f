use Rattle.std.proofs.Common.{◌≡◌, ◌≢◌, Err, inl, inr, sym, ap, subst, ◌∙◌}
use Rattle.std.proofs.lemmas.Result.{IfErr-weaker, IfOk-weaker, err_from_is_err_and}
use Rattle.pr_samples.specs.declared.feed.Got.{Got}
use Rattle.pr_tool_answers.specs.declared.answers.Answer.{Answer}
use Rattle.pr_lens_bench.specs.declared.trials.NoBench.TheVariants.{Ended}
use Rattle.pr_lens_bench.specs.Benches.{IsUnbenched}
use Rattle.pr_lens_bench.proofs.BenchLemmas.{made_bench, not_short_unbenched, unbenched, unbenched_by, unbenched_cut, unbenched_memory, whole_long}
use Rattle.pr_lens_signals.proofs.SignalLemmas.{fault-shown}
use Rattle.pr_lens_bench.proofs.benches.bench.Goals as goal

pub returns-in_err-feed-clause-refused : goal.returns-in_err-feed-clause-refused
returns-in_err-feed-clause-refused g c = unbenched_memory _ _ _ _ _ _ c.from_residual.result (err_from_is_err_and c.from_residual.result c.from_residual.ensures.1)

pub returns-in_err-lines-clause-refused : goal.returns-in_err-lines-clause-refused
returns-in_err-lines-clause-refused g c =
    let r = c.from_residual-in_err-lines in
    let first = c.in_ok-feed.feed in
    let now = c.lines_of.new.feed in
    unbenched_by (g.S.Shelf.view c.args.shelf.now).told c.args.samples.now c.args.trial.now.front.scoped.program c.args.trial.now.design _ _ r.result _ (err_from_is_err_and r.result r.ensures.1)
    (unbenched_cut (g.S.Shelf.view c.args.shelf.now).told c.args.samples.now c.args.trial.now.front.scoped.program c.args.trial.now.design first now c.in_ok-feed.ensures.feed (c.lines_of.ensures.name ∙ c.in_ok-feed.ensures.name) _ _ _ c.in_err-lines.ensures.cut)

pub returns-in-End-clause-made : goal.returns-in-End-clause-made
returns-in-End-clause-made g c =
    let lines = c.in_ok-lines.lines in
    let name = c.in_ok-feed.ensures.name in
    let no_fault : lines.end ≢ Got.ReadFault = λ fault. (let other : Got.End ≡ Got.ReadFault = sym c.in-End.is ∙ fault in cc) in
    IfOk-weaker c.short_text.result _ _ (λ t h.
    made_bench (g.S.Shelf.view c.args.shelf.now).told c.args.samples.now c.args.trial.now.front.scoped.program c.args.trial.now.design c.in_ok-feed.feed c.lines_of.new.feed c.in_ok-feed.ensures.feed (c.lines_of.ensures.name ∙ name) lines
    (c.in_ok-lines.ensures.lines no_fault) (λ missing. c.in_ok-lines.ensures.there no_fault (rw (← name) at missing)) t.items c.in-End.is h.is h.short) c.short_text.ensures.made

pub returns-in-End-clause-refused : goal.returns-in-End-clause-refused
returns-in-End-clause-refused g c =
    let lines = c.in_ok-lines.lines in
    let name = c.in_ok-feed.ensures.name in
    let told = (g.S.Shelf.view c.args.shelf.now).told in
    let no_fault : lines.end ≢ Got.ReadFault = λ fault. (let other : Got.End ≡ Got.ReadFault = sym c.in-End.is ∙ fault in cc) in
    IfErr-weaker c.short_text.result _ _ (λ s h.
    not_short_unbenched told c.args.samples.now c.args.trial.now.front.scoped.program c.args.trial.now.design lines _ _
    (whole_long told c.args.samples.now c.args.trial.now.front.scoped.program c.args.trial.now.design c.in_ok-feed.feed c.lines_of.new.feed c.in_ok-feed.ensures.feed (c.lines_of.ensures.name ∙ name) lines
    (c.in_ok-lines.ensures.lines no_fault) (λ missing. c.in_ok-lines.ensures.there no_fault (rw (← name) at missing)) c.in-End.is) s h) c.short_text.ensures.refused

pub returns-clause-refused : goal.returns-clause-refused
returns-clause-refused g c =
    let lines = c.in_ok-lines.lines in
    let name = c.in_ok-feed.ensures.name in
    let told = (g.S.Shelf.view c.args.shelf.now).told in
    subst (λ (a : Answer). IsUnbenched told c.args.samples.now c.args.trial.now.front.scoped.program c.args.trial.now.design (g.S.Shelf.view c.args.shelf.now).faults (g.S.Shelf.view c.lines_of.new.shelf).faults (Ended a)) (sym c.answer_of.ensures)
    (unbenched told c.args.samples.now c.args.trial.now.front.scoped.program c.args.trial.now.design c.in_ok-feed.feed c.lines_of.new.feed c.in_ok-feed.ensures.feed (c.lines_of.ensures.name ∙ name) _ _ lines.text.items lines.count lines.end
    c.in_ok-lines.ensures.lines c.in_ok-lines.ensures.short (λ other missing. c.in_ok-lines.ensures.there other (rw (← name) at missing)) (λ fault. rw name at (c.in_ok-lines.ensures.cause fault)) c.in_default.not-End)

pub returns-in_err-lines-clause-steady : goal.returns-in_err-lines-clause-steady
returns-in_err-lines-clause-steady g c = inr c.in_err-lines.ensures.kept

pub returns-in-End-clause-steady : goal.returns-in-End-clause-steady
returns-in-End-clause-steady g c =
    let no_fault : c.in_ok-lines.lines.end ≢ Got.ReadFault = λ fault. (let other : Got.End ≡ Got.ReadFault = sym c.in-End.is ∙ fault in cc) in
    inr (c.in_ok-lines.ensures.steady no_fault)

pub returns-clause-steady : goal.returns-clause-steady
returns-clause-steady g c = elim (fault-shown c.in_ok-lines.lines.end (g.S.Shelf.view c.args.shelf.now).faults (g.S.Shelf.view c.lines_of.new.shelf).faults c.in_ok-lines.ensures.steady) [
  | inl fault ↦ inl (ap (λ (a : Answer). Err (Ended a)) (c.answer_of.ensures ∙ fault))
  | inr same ↦ inr same
]
