use Rattle.std.proofs.Common.{◌≡◌, ℕ, length, map}
use Rattle.pr_conf.specs.Configuration.{pes_of}
use Rattle.pr_net.specs.Whole.{shape_of as net_shape}
use Rattle.pr_place.specs.Placements.{shape_of}
use Rattle.pr_route.specs.Written.{element}
use Rattle.pr_route.proofs.Written.{so_far}
use Rattle.pr_route.proofs.routing.stages.Given as goal

abbrev pub invariant-loop-unit : goal.invariant-loop-unit
invariant-loop-unit g l = record {
  size : length l.stages.items ≡ l.placement.stages;
  elements : (s c : ℕ) → element (map pes_of l.stages.items) s c ≡ so_far (net_shape l.net) (shape_of l.placement) l.unit s c;
}
