use Rattle.pr_lens_log.proofs.ReaderLaws.{line_answer}
use Rattle.pr_lens_log.proofs.readers.Reader.finish.Goals as goal

pub returns-in-Err-clause-refused : goal.returns-in-Err-clause-refused
returns-in-Err-clause-refused c = λ text h. line_answer text c.in-Err.fault (c.in-Err.ensures.refused text h)
