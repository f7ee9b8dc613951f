use Rattle.std.proofs.Common.{◌≡◌, drop, find}
use Rattle.pr_lens_fits.specs.Unfits.{ends_with}
use Rattle.pr_lens_fits.proofs.cells.group_ending.Given as goal

abbrev pub invariant-loop-group : goal.invariant-loop-group
invariant-loop-group l = find (ends_with l.unit) (drop l.group-index l.net.groups.items) ≡ find (ends_with l.unit) l.net.groups.items
