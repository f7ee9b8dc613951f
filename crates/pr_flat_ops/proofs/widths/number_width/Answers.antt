use Rattle.std.proofs.Common.{subst}
use Rattle.pr_base.specs.Numbers.{IsLeastWidth}
use Rattle.pr_flat_ops.proofs.Least.{number_width_is}
use Rattle.pr_flat_ops.proofs.widths.number_width.Goals as goal

pub returns-clause-width : goal.returns-clause-width
returns-clause-width c = number_width_is c.args.n c.bits_of.result.bits c.ranges.n.fits (subst (λ n. IsLeastWidth n c.bits_of.result.bits) c.from.ensures c.bits_of.ensures)
