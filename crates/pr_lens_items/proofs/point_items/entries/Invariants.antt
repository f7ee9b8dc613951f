use Rattle.std.proofs.Common.{◌≡◌, map, drop}
use Rattle.pr_lens_items.specs.Walks.{parts_points, fixed_walk}
use Rattle.pr_lens_items.proofs.point_items.entries.Given as goal

abbrev pub invariant-loop-value : goal.invariant-loop-value
invariant-loop-value l = parts_points (map fixed_walk (drop l.value-index l.values)) l.end l.points.items ≡ parts_points (map fixed_walk l.values) l.fn.at l.fn.points.items
