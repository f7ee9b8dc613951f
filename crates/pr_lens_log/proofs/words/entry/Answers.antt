use Rattle.pr_lens_log.proofs.WordLaws.{entry_none, entry_some}
use Rattle.pr_lens_log.proofs.words.entry.Goals as goal

pub returns-then-is_hyphen-clause-reads : goal.returns-then-is_hyphen-clause-reads
returns-then-is_hyphen-clause-reads c = λ e long is. entry_none c.args.word.now e (c.is_hyphen.ensures.0 c.if-is_hyphen.true) long is

pub returns-clause-reads : goal.returns-clause-reads
returns-clause-reads c = λ e long is. entry_some c.args.word.now c.number.result e (λ hyphen. let test = c.is_hyphen.ensures.1 hyphen in cc) c.number.ensures.reads long is
