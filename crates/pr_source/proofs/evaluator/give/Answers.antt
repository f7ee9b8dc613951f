use Rattle.std.proofs.Common.{[], ℕ, List, map, ap, sym, ◌∙◌, arith}
use Rattle.std.proofs.lemmas.List.{take_all}
use Rattle.pr_flat.specs.Shape.{shapes_of}
use Rattle.pr_flat.specs.Values.{operand_number}
use Rattle.pr_source.proofs.evaluator.give.Goals as goal

pub returns : goal.returns
returns c =
    let equations = shapes_of c.args.flat.now.equations.items in
    let outputs = c.args.flat.now.outputs.items in
    let i = c.loop-i.i in
    sym (take_all i c.loop-i.into (omega arith))
    ∙ (c.loop-i.invariant.given
    ∙ (ap (map (operand_number equations [] c.row.inside.numbers.items)) (take_all i outputs (omega (arith, c.loop-i.invariant.count)))
    ∙ ap (λ (r : List ℕ). map (operand_number equations [] r) outputs) c.row.view_is))
