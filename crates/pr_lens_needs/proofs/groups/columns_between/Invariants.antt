use Rattle.std.proofs.Common.{◌≡◌, take}
use Rattle.pr_net.specs.Whole.{shape_of}
use Rattle.pr_lens_needs.specs.Takes.{columns_between}
use Rattle.pr_lens_needs.proofs.groups.columns_between.Given as goal

abbrev pub invariant-loop-unit : goal.invariant-loop-unit
invariant-loop-unit l = l.cells ≡ columns_between (shape_of l.net) (take l.unit-index l.units) l.from l.to
