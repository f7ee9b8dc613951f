use Rattle.pr_samples.proofs.ResultLemmas.{short_line}
use Rattle.pr_samples.proofs.results.put_result.Goals as goal

pub returns-then-bytes-le8-clause-all : goal.returns-then-bytes-le8-clause-all
returns-then-bytes-le8-clause-all g c =
    rw (short_line c.args.widths.now c.args.bytes.now c.if-widths-eq1.true c.requires.bytes, ← c.short_number.ensures) c.put_short.ensures.all

pub returns-then-bytes-le8-clause-front : goal.returns-then-bytes-le8-clause-front
returns-then-bytes-le8-clause-front g c =
    rw (short_line c.args.widths.now c.args.bytes.now c.if-widths-eq1.true c.requires.bytes, ← c.short_number.ensures) c.put_short.ensures.front
