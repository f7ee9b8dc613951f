use Rattle.std.proofs.Common.{◌≡◌, drop, length}
use Rattle.pr_place.specs.Numbering.{owned_by}
use Rattle.pr_place.proofs.celltables.own.Given as goal

abbrev pub invariant-loop-cell : goal.invariant-loop-cell
invariant-loop-cell l = record {
  rest : owned_by l.group l.owner (drop l.cell-index l.cells) ≡ owned_by l.group l.initial.owner l.cells;
  long : length l.owner ≡ length l.initial.owner;
}
