use Rattle.std.proofs.Common.{◌≡◌, drop}
use Rattle.pr_expand_spec.specs.Expressions.{beside}
use Rattle.pr_expand.specs.Code.{made_of}
use Rattle.pr_expand.proofs.operands.beside_all.Given as goal

abbrev pub invariant-loop-part : goal.invariant-loop-part
invariant-loop-part l = beside (made_of l.above) (drop l.part-index l.parts) ≡ beside (made_of l.fn.above) l.parts
