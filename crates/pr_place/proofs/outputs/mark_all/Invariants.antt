use Rattle.std.proofs.Common.{◌≡◌, drop, length}
use Rattle.pr_place.specs.Numbering.{marked_all}
use Rattle.pr_place.proofs.outputs.mark_all.Given as goal

abbrev pub invariant-loop-slice : goal.invariant-loop-slice
invariant-loop-slice l = record {
  rest : marked_all l.first l.kept (drop l.slice-index l.slices) ≡ marked_all l.first l.initial.kept l.slices;
  long : length l.kept ≡ length l.initial.kept;
}
