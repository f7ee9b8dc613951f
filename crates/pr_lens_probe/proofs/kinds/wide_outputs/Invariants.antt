use Rattle.std.proofs.Common.{◌≡◌, ◌++◌, drop, map}
use Rattle.pr_lens_probe.specs.Kinds.{is_wide, last_of}
use Rattle.pr_lens_probe.proofs.kinds.wide_outputs.Given as goal

abbrev pub invariant-loop-place : goal.invariant-loop-place
invariant-loop-place l = l.kinds.items ++ map (is_wide l.widths) (drop l.place l.flat.outputs.items) ≡ map (is_wide l.widths) (last_of l.count l.flat.outputs.items)
