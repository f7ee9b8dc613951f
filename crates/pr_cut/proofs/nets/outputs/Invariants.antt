use Rattle.std.proofs.Common.{◌≡◌, map, take}
use Rattle.pr_cut_units.specs.Nets.{output_of}
use Rattle.pr_cut.specs.Sources.{plan_in}
use Rattle.pr_cut.proofs.nets.outputs.Given as goal

abbrev pub invariant-loop-i : goal.invariant-loop-i
invariant-loop-i l = l.all.items ≡ map (output_of (plan_in l.source) l.values) (take l.i l.source.flat.now.outputs.items)
