use Rattle.std.proofs.Common.{◌≡◌, map}
use Rattle.std.specs.List.{range_with_len}
use Rattle.pr_net.specs.Whole.{shape_of}
use Rattle.pr_place.specs.Courses.{home_at}
use Rattle.pr_place.specs.Placements.{home_shape}
use Rattle.pr_place.proofs.homes.homes.Given as goal

abbrev pub invariant-loop-unit : goal.invariant-loop-unit
invariant-loop-unit g l = map home_shape l.homes.items ≡ map (home_at (shape_of l.net) l.tables l.course) (range_with_len 0 l.unit)
