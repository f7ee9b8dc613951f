use Rattle.std.proofs.Common.{◌≡◌}
use Rattle.pr_net.specs.Whole.{shape_of}
use Rattle.pr_cut_units.specs.Flats.{flat_plan}
use Rattle.pr_lens_needs.specs.Takes.{takes_before}
use Rattle.pr_lens_needs.proofs.takes.most_takes.Given as goal

abbrev pub invariant-loop-number : goal.invariant-loop-number
invariant-loop-number l = l.takes.items ≡ takes_before (flat_plan l.group.flat.now l.group.widths.now) (shape_of l.group.net.now) l.group.units.now l.number
