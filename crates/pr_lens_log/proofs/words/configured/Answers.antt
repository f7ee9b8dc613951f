use Rattle.pr_lens_log.proofs.WordLaws.{pair_none, pair_some}
use Rattle.pr_lens_log.proofs.words.configured.Goals as goal

pub returns-then-is_hyphen-clause-reads : goal.returns-then-is_hyphen-clause-reads
returns-then-is_hyphen-clause-reads c = λ pair short is. pair_none c.args.word.now pair (c.is_hyphen.ensures.0 c.if-is_hyphen.true) short is

pub returns-clause-reads : goal.returns-clause-reads
returns-clause-reads c = λ pair short is.
    pair_some c.args.word.now c.cut.result.0.now c.cut.result.1.now c.short.result c.short-2.result pair
    (λ hyphen. let test = c.is_hyphen.ensures.1 hyphen in cc) c.cut.ensures c.short.ensures.reads c.short-2.ensures.reads short is
