use Rattle.std.proofs.Common.{arith}
use Rattle.pr_lens_shares.proofs.CountLemmas.{behind_all}
use Rattle.pr_lens_shares.proofs.counts.units_before.Goals as goal

pub returns : goal.returns
returns c = behind_all c.args.flat.now c.args.widths.now c.args.units c.len.result c.args.equation c.requires.units (omega (arith, c.len.ensures)) (omega (arith, c.if-equation-len.false))
