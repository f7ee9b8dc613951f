use Rattle.std.proofs.Common.{◌∙◌, ℕ, List, Some, ap, sym}
use Rattle.pr_flat.specs.Shape.{EquationShape}
use Rattle.pr_expand.specs.Keys.{key_in}
use Rattle.pr_expand.proofs.making.delay_of.Goals as goal

pub push_keyed-requires : goal.push_keyed-requires
push_keyed-requires c = ap (λ (k : List ℕ). Some k) c.requires ∙ sym (ap (λ (s : EquationShape). key_in s.op s.args) c.in_ok-equation.ensures)
