use Rattle.pr_lens_log.proofs.ReaderLaws.{log_told}
use Rattle.pr_lens_log.proofs.readers.closed.Goals as goal

pub returns-clause-log : goal.returns-clause-log
returns-clause-log c = λ choice text lines h. log_told choice text lines c.args.log h c.cut.new.self c.if-log-eq0.false (λ tale few has. c.cut.ensures choice tale few has)
