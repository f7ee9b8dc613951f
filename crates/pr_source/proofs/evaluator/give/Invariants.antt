use Rattle.std.proofs.Common.{◌≡◌, [], map, take, length}
use Rattle.pr_flat.specs.Shape.{shapes_of}
use Rattle.pr_flat.specs.Values.{operand_number}
use Rattle.pr_source.proofs.evaluator.give.Given as goal

abbrev pub invariant-loop-i : goal.invariant-loop-i
invariant-loop-i l = record {
  count : length l.into ≡ length l.flat.outputs.items;
  given : take l.i l.into ≡ map (operand_number (shapes_of l.flat.equations.items) [] l.numbers.items) (take l.i l.flat.outputs.items);
}
