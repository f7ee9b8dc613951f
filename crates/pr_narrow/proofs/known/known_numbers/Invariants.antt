use Rattle.std.proofs.Common.{◌≡◌, length, drop}
use Rattle.pr_flat.specs.Shape.{shapes_of}
use Rattle.pr_narrow.specs.Known.{known_after, known_of}
use Rattle.pr_narrow.specs.Passes.{HaveBits}
use Rattle.pr_narrow.proofs.known.known_numbers.Given as goal

abbrev pub invariant-loop-i : goal.invariant-loop-i
invariant-loop-i l = record {
  count : length l.known.items ≡ l.i;
  bits : HaveBits l.widths l.known.items;
  rest : known_after l.widths l.known.items (drop l.i (shapes_of l.flat.equations.items)) ≡ known_of (shapes_of l.flat.equations.items) l.widths;
}
