use Rattle.std.proofs.Common.{◌∙◌}
use Rattle.pr_lens_log.proofs.WordLaws.{decimal_utf8}
use Rattle.pr_lens_log.proofs.words.number.Goals as goal

pub returns-in-Err-clause-reads : goal.returns-in-Err-clause-reads
returns-in-Err-clause-reads c = λ n few is. absurd (c.in-Err.ensures.cases.0 (decimal_utf8 c.args.word.now n few is))

pub returns-in-Ok-clause-reads : goal.returns-in-Ok-clause-reads
returns-in-Ok-clause-reads c = λ n few is. c.number_of.ensures.reads n few (c.in-Ok.ensures.cases.0 ∙ is)
