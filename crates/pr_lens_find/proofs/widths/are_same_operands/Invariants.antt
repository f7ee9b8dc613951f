use Rattle.std.proofs.Common.{◌≡◌, ◌<◌, ℕ, get_or}
use Rattle.pr_flat.specs.declared.equations.Operand.{Operand}
use Rattle.pr_lens_find.proofs.widths.are_same_operands.Given as goal

abbrev pub invariant-loop-place : goal.invariant-loop-place
invariant-loop-place l = (k : ℕ) (d : Operand) → k < l.place → get_or l.one k d ≡ get_or l.other k d
