use Rattle.std.proofs.Common.{◌≡◌, take}
use Rattle.pr_flat.specs.Shape.{shapes_of}
use Rattle.pr_narrow.specs.Known.{folded_by}
use Rattle.pr_narrow.proofs.known.fold_known.Given as goal

abbrev pub invariant-loop-i : goal.invariant-loop-i
invariant-loop-i l = record {
  made : shapes_of l.folded.items ≡ take l.i (folded_by l.known l.widths (shapes_of l.equations));
}
