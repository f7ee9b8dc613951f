use Rattle.std.proofs.Common.{◌≡◌, drop, length}
use Rattle.pr_place.specs.Opening.{noted}
use Rattle.pr_place.proofs.opening.note.Given as goal

abbrev pub invariant-loop-group : goal.invariant-loop-group
invariant-loop-group l = record {
  rest : noted l.stage l.stages.items (drop l.group-index l.groups) ≡ noted l.stage l.initial.stages.items l.groups;
  long : length l.stages.items ≡ length l.initial.stages.items;
}
