use Rattle.std.proofs.Common.{arith}
use Rattle.pr_samples.proofs.ScanLemmas.{taken_numbers-some}
use Rattle.pr_samples.proofs.scan.met_by.Goals as goal

pub returns-else-done-widths : goal.returns-else-done-widths
returns-else-done-widths c = taken_numbers-some c.args.numbers.now c.args.widths.now c.args.done c.requires.numbers (omega arith) (omega arith)
