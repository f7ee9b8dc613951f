use Rattle.std.proofs.Common.{arith, length}
use Rattle.std.proofs.lemmas.Bool.{OnTrue_from, OnFalse_from, leb-true, leb-false}
use Rattle.std.proofs.lemmas.Option.{slice_get_within}
use Rattle.pr_flat.specs.Shape.{equation_shape, shapes_of}
use Rattle.pr_flat.proofs.WidthLemmas.{below_fewer}
use Rattle.pr_width.specs.Reads.{is_within}
use Rattle.pr_width.proofs.SolverLemmas.{shape_at, lawful_at, below_tried_at, fails_in_body, fails_at_end, holds_here, number_within, body_ordered, rec_args, first_passes, put_here, before_put}
use Rattle.pr_width.proofs.solver.holds_at.Goals as goal

pub fill-reached-requires-clause-below : goal.fill-reached-requires-clause-below
fill-reached-requires-clause-below c = below_tried_at (shapes_of c.args.flat.now.equations.items) c.args.flat.now.outputs.items c.args.recurrence c.args.widths.now c.args.width c.args.flat.now.lawful c.requires.there c.requires.below

pub returns-then-reached-recurrence-clause-fails : goal.returns-then-reached-recurrence-clause-fails
returns-then-reached-recurrence-clause-fails c =
    let ordered = body_ordered (shapes_of c.args.flat.now.equations.items) c.args.flat.now.outputs.items c.args.recurrence c.args.flat.now.lawful c.requires.there in
    fails_in_body (shapes_of c.args.flat.now.equations.items) c.args.flat.now.outputs.items c.args.recurrence c.args.widths.now c.fill-reached.new.widths c.args.width c.fill-reached.result c.args.flat.now.lawful c.requires.there c.fill-reached.ensures.below (put_here c.args.recurrence.number c.args.width c.args.widths.now c.fill-reached.new.widths (omega (arith, c.requires.below.count, slice_get_within (shapes_of c.args.flat.now.equations.items) c.args.recurrence.number c.requires.there.equation c.requires.there.there)) c.fill-reached.ensures.after) (before_put c.args.recurrence.first c.args.recurrence.number c.args.width c.args.widths.now c.fill-reached.new.widths ordered c.fill-reached.ensures.before) c.fill-reached.ensures.low c.if-reached-recurrence.true (λ d there. c.fill-reached.ensures.stops d c.if-reached-recurrence.true there)

pub index-requires : goal.index-requires
index-requires c = let low = number_within c.args.flat.now.equations.items c.args.recurrence c.requires.there in omega (arith, c.args.flat.now.equations.ok.0)

pub index-requires-2 : goal.index-requires-2
index-requires-2 c =
    let low = number_within c.args.flat.now.equations.items c.args.recurrence c.requires.there in
    let count = rec_args (shapes_of c.args.flat.now.equations.items) c.args.flat.now.outputs.items c.args.recurrence (equation_shape c.index.result.now) c.args.flat.now.lawful c.requires.there (shape_at c.args.flat.now.equations.items c.args.recurrence.number c.index.result.now low c.index.ensures) in
    omega (arith, c.index.result.now.args.ok.0)

pub operand_width-requires : goal.operand_width-requires
operand_width-requires c =
    let low = number_within c.args.flat.now.equations.items c.args.recurrence c.requires.there in
    let count = rec_args (shapes_of c.args.flat.now.equations.items) c.args.flat.now.outputs.items c.args.recurrence (equation_shape c.index.result.now) c.args.flat.now.lawful c.requires.there (shape_at c.args.flat.now.equations.items c.args.recurrence.number c.index.result.now low c.index.ensures) in
    first_passes (is_within (length c.fill-reached.new.widths)) c.index.result.now.args.items c.index-2.result.now (lawful_at c.args.flat.now.equations.items c.args.flat.now.outputs.items c.args.recurrence.number (length c.fill-reached.new.widths) c.index.result.now c.args.flat.now.lawful c.fill-reached.ensures.below.count low c.index.ensures).within (omega arith) c.index-2.ensures

pub returns-clause-holds : goal.returns-clause-holds
returns-clause-holds c =
    let low = number_within c.args.flat.now.equations.items c.args.recurrence c.requires.there in
    OnTrue_from _ _ (λ fits. holds_here (shapes_of c.args.flat.now.equations.items) c.args.flat.now.outputs.items c.args.recurrence c.fill-reached.new.widths c.args.width (equation_shape c.index.result.now) c.index-2.result.now c.args.flat.now.lawful c.requires.there (below_fewer c.args.recurrence.number c.fill-reached.result (shapes_of c.args.flat.now.equations.items) c.fill-reached.new.widths c.if-reached-recurrence.false c.fill-reached.ensures.below) (put_here c.args.recurrence.number c.args.width c.args.widths.now c.fill-reached.new.widths (omega (arith, c.requires.below.count, slice_get_within (shapes_of c.args.flat.now.equations.items) c.args.recurrence.number c.requires.there.equation c.requires.there.there)) c.fill-reached.ensures.after) c.requires.least c.requires.greatest c.requires.initial (shape_at c.args.flat.now.equations.items c.args.recurrence.number c.index.result.now low c.index.ensures) c.index-2.ensures (let narrow = leb-true c.operand_width.result c.args.width fits in omega (arith, c.operand_width.ensures)))

pub returns-clause-fails : goal.returns-clause-fails
returns-clause-fails c =
    let low = number_within c.args.flat.now.equations.items c.args.recurrence c.requires.there in
    let ordered = body_ordered (shapes_of c.args.flat.now.equations.items) c.args.flat.now.outputs.items c.args.recurrence c.args.flat.now.lawful c.requires.there in
    let count = rec_args (shapes_of c.args.flat.now.equations.items) c.args.flat.now.outputs.items c.args.recurrence (equation_shape c.index.result.now) c.args.flat.now.lawful c.requires.there (shape_at c.args.flat.now.equations.items c.args.recurrence.number c.index.result.now low c.index.ensures) in
    OnFalse_from _ _ (λ wide. fails_at_end (shapes_of c.args.flat.now.equations.items) c.args.flat.now.outputs.items c.args.recurrence c.args.widths.now c.fill-reached.new.widths c.args.width (equation_shape c.index.result.now) c.index-2.result.now c.args.flat.now.lawful c.requires.there (below_fewer c.args.recurrence.number c.fill-reached.result (shapes_of c.args.flat.now.equations.items) c.fill-reached.new.widths c.if-reached-recurrence.false c.fill-reached.ensures.below) (put_here c.args.recurrence.number c.args.width c.args.widths.now c.fill-reached.new.widths (omega (arith, c.requires.below.count, slice_get_within (shapes_of c.args.flat.now.equations.items) c.args.recurrence.number c.requires.there.equation c.requires.there.there)) c.fill-reached.ensures.after) (before_put c.args.recurrence.first c.args.recurrence.number c.args.width c.args.widths.now c.fill-reached.new.widths ordered c.fill-reached.ensures.before) (shape_at c.args.flat.now.equations.items c.args.recurrence.number c.index.result.now low c.index.ensures) (omega arith) c.index-2.ensures (let wider = leb-false c.operand_width.result c.args.width wide in omega (arith, c.operand_width.ensures)))
