use Rattle.std.proofs.Common.{arith}
use Rattle.pr_samples.specs.Scan.{cut_end}
use Rattle.pr_samples.proofs.ScanLemmas.{closed_end-some}
use Rattle.pr_samples.proofs.scan.met_cut.Goals as goal

pub returns-else-cursor-widths-clause-taken : goal.returns-else-cursor-widths-clause-taken
unfolding cut_end
returns-else-cursor-widths-clause-taken c = λ numbers. rw c.in-Closed.is (closed_end-some c.args.widths.now c.args.cursor.done (omega arith))
