use Rattle.std.proofs.Common.{arith}
use Rattle.pr_lens_shares.proofs.CountLemmas.{all_counted}
use Rattle.pr_lens_shares.proofs.counts.unit_counts.Goals as goal

pub counts_with-requires-clause-units : goal.counts_with-requires-clause-units
counts_with-requires-clause-units c = all_counted c.args.flat.now c.args.widths.now _ _ c.requires.widths c.in_ok-net.ensures.net (omega (arith, c.len.ensures, c.in_ok-net.net.units.ok.0))
