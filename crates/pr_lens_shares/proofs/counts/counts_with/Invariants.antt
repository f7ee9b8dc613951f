use Rattle.std.proofs.Common.{◌≡◌, ◌++◌, drop}
use Rattle.pr_cut_units.specs.Flats.{flat_plan}
use Rattle.pr_lens_shares.specs.Counts.{unit_counts}
use Rattle.pr_lens_shares.proofs.counts.counts_with.Given as goal

abbrev pub invariant-loop-operand : goal.invariant-loop-operand
invariant-loop-operand l =
    l.counts.items ++ unit_counts (flat_plan l.flat l.widths) l.from (drop l.operand-index l.operands) ≡ unit_counts (flat_plan l.flat l.widths) 0 l.operands
