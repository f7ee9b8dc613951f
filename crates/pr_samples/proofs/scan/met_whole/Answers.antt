use Rattle.std.proofs.Common.{arith, ◌∙◌}
use Rattle.pr_samples.proofs.ScanLemmas.{whole_end-number}
use Rattle.pr_samples.proofs.scan.met_whole.Goals as goal

pub returns-in-Number : goal.returns-in-Number
returns-in-Number c =
    c.met_by-in-Number.ensures ∙ whole_end-number c.args.widths.now c.args.numbers.now c.args.cursor c.in-Number.n c.in-Number.is (omega (arith, rw c.in-Number.is at c.requires.room))
