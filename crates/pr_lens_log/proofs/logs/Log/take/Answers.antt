use Rattle.std.proofs.Common.{ℕ, refl, rules, subst, sym}
use Rattle.pr_lens_log.specs.Excerpts.{AreTotals}
use Rattle.pr_lens_log.specs.Logs.{AreDrawn}
use Rattle.pr_lens_log.proofs.ReaderLaws.{taken_cycle, taken_end, taken_result}
use Rattle.pr_lens_log.proofs.logs.Log.take.Goals as goal

pub returns-in-Some-End-clause-taken : goal.returns-in-Some-End-clause-taken
returns-in-Some-End-clause-taken c = λ good tale has.
    let end = rw c.in-Some-End.field-0-is at c.in-Some-End.ensures.told in
    taken_end c.args.choice c.args.bytes.now tale c.args.self.now end has

pub returns-in-Some-Result-clause-taken : goal.returns-in-Some-Result-clause-taken
returns-in-Some-Result-clause-taken c = λ good tale has.
    let line = rw c.in-Some-Result.field-0-is at c.in-Some-Result.ensures.told in
    taken_result c.args.choice c.args.bytes.now tale _ c.args.self.now line has refl refl

pub returns-in_ok-add-in-Some-Cycle-clause-taken : goal.returns-in_ok-add-in-Some-Cycle-clause-taken
returns-in_ok-add-in-Some-Cycle-clause-taken c = λ good tale has.
    let line = rw c.in-Some-Cycle.field-0-is at c.in-Some-Cycle.ensures.told in
    let same = has.totals.results_are in
    let drawn : AreDrawn c.in-Some-Cycle.logged.turn.configured = search rules in
    let told = c.in_ok-add-in-Some-Cycle.ensures.told 256 tale.cycles tale.written (subst (λ (n : ℕ). AreTotals tale.cycles n c.args.self.now.totals) (sym same) has.totals) has.excerpt in
    taken_cycle c.args.choice c.args.bytes.now tale c.add.new.self c.in-Some-Cycle.logged c.args.self.now.totals.results line drawn same told.0 told.1
