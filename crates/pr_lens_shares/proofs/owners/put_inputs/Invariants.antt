use Rattle.std.proofs.Common.{◌≡◌, ◌++◌, drop}
use Rattle.pr_flat.specs.Shape.{shapes_of}
use Rattle.pr_lens_shares.specs.Owners.{input_owners}
use Rattle.pr_lens_shares.proofs.owners.put_inputs.Given as goal

abbrev pub invariant-loop-number : goal.invariant-loop-number
invariant-loop-number l = l.owners.items ++ input_owners l.operands l.number (shapes_of (drop l.number l.flat.equations.items)) ≡ l.fn.owners.items ++ input_owners l.operands 0 (shapes_of l.flat.equations.items)
