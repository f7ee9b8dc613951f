use Rattle.std.proofs.Common.{◌≡◌, ℕ, map, length, if◌then◌else◌}
use Rattle.pr_conf.specs.Configuration.{pes_of}
use Rattle.pr_place.specs.Placements.{shape_of}
use Rattle.pr_route.specs.Written.{element, covers, written}
use Rattle.pr_route.proofs.writing.put_unit.Given as goal

abbrev pub invariant-loop-place : goal.invariant-loop-place
invariant-loop-place g l = record {
  size : length l.stages ≡ length l.initial.stages;
  elements : (s c : ℕ) → element (map pes_of l.stages) s c ≡ (if covers (shape_of l.placement) l.unit l.place s c then written (shape_of l.placement) l.unit l.cells c else element (map pes_of l.initial.stages) s c);
}
