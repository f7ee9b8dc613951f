use Rattle.std.proofs.Common.{◌≡◌, map, take}
use Rattle.pr_conf.specs.Shape.{output_shape}
use Rattle.pr_net.specs.Whole.{shape_of as net_shape}
use Rattle.pr_place.specs.Placements.{shape_of}
use Rattle.pr_route.specs.Conf.{taps_of}
use Rattle.pr_route.proofs.routing.outputs.Given as goal

abbrev pub invariant-loop-output : goal.invariant-loop-output
invariant-loop-output l = map output_shape l.outputs.items ≡ map (taps_of (shape_of l.placement)) (take l.output-index (net_shape l.net).outputs)
