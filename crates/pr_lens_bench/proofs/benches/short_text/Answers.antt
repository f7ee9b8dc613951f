use Rattle.std.proofs.Common.{arith}
use Rattle.pr_lens_bench.proofs.benches.short_text.Goals as goal

pub returns-clause-made : goal.returns-clause-made
returns-clause-made c = record { is = rw c.deref.ensures.value at c.in_ok-text.ensures; short = omega arith }
