use Rattle.std.proofs.Common.{◌≡◌, map, take}
use Rattle.pr_place.specs.Placements.{shape_of}
use Rattle.pr_route.specs.Conf.{tap_of}
use Rattle.pr_route.proofs.routing.taps.Given as goal

abbrev pub invariant-loop-slice : goal.invariant-loop-slice
invariant-loop-slice l = l.taps.items ≡ map (tap_of (shape_of l.placement)) (take l.slice-index l.slices)
