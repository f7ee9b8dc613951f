use Rattle.std.proofs.Common.{arith}
use Rattle.std.proofs.lemmas.Bool.{OnFalse_at}
use Rattle.pr_flat.specs.Shape.{shapes_of}
use Rattle.pr_flat.proofs.WidthLemmas.{below_fewer}
use Rattle.pr_width.proofs.SolverLemmas.{without_before, without_at, number_within, body_ordered}
use Rattle.pr_width.proofs.solver.put_recurrence.Goals as goal

pub returns-then-reached-recurrence-clause-without : goal.returns-then-reached-recurrence-clause-without
returns-then-reached-recurrence-clause-without c =
    let low = number_within c.args.flat.now.equations.items c.args.recurrence c.requires.there in
    let ordered = body_ordered (shapes_of c.args.flat.now.equations.items) c.args.flat.now.outputs.items c.args.recurrence c.args.flat.now.lawful c.requires.there in
    (without_before (shapes_of c.args.flat.now.equations.items) c.args.flat.now.outputs.items c.args.recurrence c.fill-reached.new.widths c.args.from c.fill-reached.result c.args.flat.now.lawful c.requires.there c.requires.closed c.fill-reached.ensures.low c.if-reached-recurrence.true c.fill-reached.ensures.below (λ e there. c.fill-reached.ensures.stops e c.if-reached-recurrence.true there), omega (arith, c.args.flat.now.equations.ok.0))

pub returns-then-not-put_least-clause-without : goal.returns-then-not-put_least-clause-without
returns-then-not-put_least-clause-without c =
    let low = number_within c.args.flat.now.equations.items c.args.recurrence c.requires.there in
    (without_at (shapes_of c.args.flat.now.equations.items) c.args.recurrence c.fill-reached.new.widths c.requires.there (below_fewer c.args.recurrence.first c.fill-reached.result (shapes_of c.args.flat.now.equations.items) c.fill-reached.new.widths c.if-reached-recurrence.false c.fill-reached.ensures.below) (OnFalse_at c.if-not-put_least.true c.put_least.ensures.nowhere), omega (arith, c.args.flat.now.equations.ok.0))

pub overflow_add-result : goal.overflow_add-result
overflow_add-result c = let low = number_within c.args.flat.now.equations.items c.args.recurrence c.requires.there in omega (arith, c.args.flat.now.equations.ok.0, c.args.flat.now.lawful.few)
