use Rattle.std.proofs.Common.{◌≡◌, ◌+◌, ◌-◌, ◌∙◌, false, List, length, get_or, ap, arith}
use Rattle.pr_flat.specs.declared.equations.Operand.{Operand}
use Rattle.pr_flat.specs.Shape.{shapes_of}
use Rattle.pr_cut_units.specs.Reached.{reached}
use Rattle.pr_cut_plan.proofs.ReachedLemmas.{shapes_few, reached_beyond, whole_reached}
use Rattle.pr_cut_plan.proofs.reached.reached.Goals as goal

pub reached_within-requires-clause-later : goal.reached_within-requires-clause-later
reached_within-requires-clause-later c = λ j l. reached_beyond (shapes_of c.args.flat.now.equations.items) c.deref.result.now j (omega (arith, l, shapes_few c.args.flat.now.equations.items, c.len.ensures, c.args.flat.now.equations.ok.0))

pub returns : goal.returns
returns c =
    let es = shapes_of c.args.flat.now.equations.items in
    let few = shapes_few c.args.flat.now.equations.items in
    let count = c.in_ok-flags.ensures.count in
    let end = c.len.ensures in
    let z : c.len.result - 0 ≡ length es = omega (arith, few, end, c.args.flat.now.equations.ok.0) in
    whole_reached es c.args.flat.now.outputs.items c.in_ok-flags.flags.items (omega (arith, count, z, c.in_ok-flags.flags.ok.0))
    (λ j l. c.in_ok-flags.ensures.flags j (omega (arith, l, z)) ∙ ap (λ (xs : List Operand). get_or (reached es xs) (0 + j) false) c.deref.ensures.value)
