use Rattle.pr_lens_log.proofs.CycleLaws.{saved_hyphen, saved_stage}
use Rattle.pr_lens_log.proofs.words.saved.Goals as goal

pub returns-then-is_hyphen-clause-reads : goal.returns-then-is_hyphen-clause-reads
returns-then-is_hyphen-clause-reads c = λ stage state rest short bytes is.
    saved_hyphen c.args.words.now c.cut.result.0.now c.cut.result.1.now c.cut.ensures stage state rest (c.is_hyphen.ensures.0 c.if-is_hyphen.true) short is

pub returns-clause-reads : goal.returns-clause-reads
returns-clause-reads c = λ stage state rest short bytes is.
    saved_stage c.args.words.now c.cut.result.0.now c.cut.result.1.now c.cut.ensures c.cut-2.result.0.now c.cut-2.result.1.now c.short.result stage state rest
    (λ hyphen. let test = c.is_hyphen.ensures.1 hyphen in cc) c.cut-2.ensures c.short.ensures.reads short is
