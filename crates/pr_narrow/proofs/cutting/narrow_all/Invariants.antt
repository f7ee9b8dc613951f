use Rattle.std.proofs.Common.{◌≡◌, ◌++◌, length, take, drop}
use Rattle.pr_flat.specs.Shape.{shapes_of}
use Rattle.pr_narrow.specs.Narrowed.{narrowed_by}
use Rattle.pr_narrow.proofs.cutting.narrow_all.Given as goal

abbrev pub invariant-loop-i : goal.invariant-loop-i
invariant-loop-i l = record {
  count : length l.equations ≡ length l.initial.equations;
  made : shapes_of l.equations ≡ take l.i (narrowed_by l.demand l.news (shapes_of l.initial.equations)) ++ drop l.i (shapes_of l.initial.equations);
}
