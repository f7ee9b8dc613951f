use Rattle.std.proofs.Common.{rules, ◌≡◌, ◌<◌, ◌+◌, false, List, length, map, max, arith, ap, ◌∙◌}
use Rattle.std.specs.Bool.{if◌then◌else◌}
use Rattle.std.proofs.lemmas.List.{get_or_default}
use Rattle.pr_flat.specs.declared.equations.Operand.{Operand}
use Rattle.pr_flat.specs.Shape.{equation_shape, shapes_of}
use Rattle.pr_width.proofs.SolverLemmas.{shape_at}
use Rattle.pr_cut_units.specs.Reached.{past_read, greatest, hold_count}
use Rattle.pr_cut_plan.proofs.ReachedLemmas.{own_later, past_first, past_last, past_next, rec_ordered, rec_within, shapes_few}
use Rattle.pr_cut_plan.proofs.reached.hold_count.Goals as goal

pub reached_within-requires-clause-later : goal.reached_within-requires-clause-later
reached_within-requires-clause-later c = own_later (shapes_of c.args.flat.now.equations.items) c.args.rec

pub loop-i-init : goal.loop-i-init
loop-i-init c = past_first (shapes_of c.args.flat.now.equations.items) c.args.flat.now.outputs.items c.args.rec c.args.first (c.args.first + 0) c.args.flat.now.lawful c.requires (omega arith)

pub index-requires-in-loop-i : goal.index-requires-in-loop-i
index-requires-in-loop-i c =
    let es = shapes_of c.args.flat.now.equations.items in
    let within = rec_within es c.args.rec c.args.first c.requires in
    let low = rec_ordered es c.args.flat.now.outputs.items c.args.rec c.args.first c.args.flat.now.lawful c.requires in
    let few = shapes_few c.args.flat.now.equations.items in
    let count = c.in_ok-flags.ensures.count in
    let end = c.len-i-end.ensures in
    omega (arith, within, low, few, count, end, c.args.flat.now.equations.ok.0)

pub loop-i-preserved : goal.loop-i-preserved
loop-i-preserved c =
    let es = shapes_of c.args.flat.now.equations.items in
    let x = c.index-in-loop-i.result.now in
    let within = rec_within es c.args.rec c.args.first c.requires in
    let low = rec_ordered es c.args.flat.now.outputs.items c.args.rec c.args.first c.args.flat.now.lawful c.requires in
    let few = shapes_few c.args.flat.now.equations.items in
    let count = c.in_ok-flags.ensures.count in
    let end = c.len-i-end.ensures in
    let here : c.args.first + c.loop-i.i < length c.args.flat.now.equations.items = omega (arith, within, low, few, count, end) in
    let there = shape_at c.args.flat.now.equations.items (c.args.first + c.loop-i.i) x here c.index-in-loop-i.ensures in
    let most : c.max-most.result ≡ max c.loop-i.most c.most_where.result = search rules in
    past_next es c.args.rec c.args.first c.loop-i.i (equation_shape x) c.index.result.now c.loop-i.most c.max-most.result c.most_where.result (hold_count es c.args.rec) there
    (c.index.ensures ∙ get_or_default c.in_ok-flags.flags.items c.loop-i.i c.index.result.now false (omega (arith, end, c.in_ok-flags.flags.ok.0)) ∙ c.in_ok-flags.ensures.flags c.loop-i.i (omega (arith, end, count)))
    (c.most_where.ensures ∙ ap (λ (xs : List Operand). if c.index.result.now then greatest (map (past_read c.args.rec) xs) else 0) c.deref.ensures.value)
    most c.loop-i.invariant

pub returns : goal.returns
returns c =
    let es = shapes_of c.args.flat.now.equations.items in
    let low = rec_ordered es c.args.flat.now.outputs.items c.args.rec c.args.first c.args.flat.now.lawful c.requires in
    let count = c.in_ok-flags.ensures.count in
    let end = c.len-i-end.ensures in
    past_last es c.args.rec (c.args.first + c.loop-i.i) c.loop-i.most (hold_count es c.args.rec) (omega (arith, low, count, end)) c.loop-i.invariant
