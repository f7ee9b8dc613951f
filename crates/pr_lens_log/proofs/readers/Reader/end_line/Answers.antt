use Rattle.std.proofs.Common.{ℕ, List, rules, subst}
use Rattle.pr_lens_log.specs.Logs.{IsTaken}
use Rattle.pr_lens_log.proofs.ReaderLaws.{line_taken}
use Rattle.pr_lens_log.proofs.readers.Reader.end_line.Goals as goal

pub returns-clause-taken : goal.returns-clause-taken
returns-clause-taken c = λ text from to here.
    let taken = c.in_ok-take.ensures.taken (search rules) here.taken.tale here.taken.has in
    line_taken text from to c.args.self.now here c.take.new.self
    (subst (λ (b : List ℕ). IsTaken c.args.self.now.choice b here.taken.tale c.take.new.self) c.deref.ensures.value taken)
