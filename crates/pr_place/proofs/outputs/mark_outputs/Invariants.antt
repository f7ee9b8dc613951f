use Rattle.std.proofs.Common.{◌≡◌, drop, length}
use Rattle.pr_place.specs.Numbering.{marked_outputs}
use Rattle.pr_place.proofs.outputs.mark_outputs.Given as goal

abbrev pub invariant-loop-output : goal.invariant-loop-output
invariant-loop-output l = record {
  rest : marked_outputs l.first l.kept (drop l.output-index l.outputs) ≡ marked_outputs l.first l.initial.kept l.outputs;
  long : length l.kept ≡ length l.initial.kept;
}
