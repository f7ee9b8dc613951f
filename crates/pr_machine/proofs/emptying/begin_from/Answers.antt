use Rattle.std.proofs.Common.{arith}
use Rattle.std.proofs.lemmas.List.{length-map}
use Rattle.pr_conf.specs.Configuration.{shape_of, pes_of}
use Rattle.pr_machine.specs.Places.{rows_of}
use Rattle.pr_machine.proofs.Begun.{begun_none_yet, begun_next, begun_whole, begun_state, long_stage}
use Rattle.pr_machine.proofs.emptying.begin_from.Goals as goal

pub loop-stage-init : goal.loop-stage-init
loop-stage-init g c = begun_none_yet g.row.N (rows_of c.args.store.now) (shape_of c.args.conf.now)

pub loop-stage-preserved : goal.loop-stage-preserved
loop-stage-preserved g c =
    let n = length-map c.args.conf.now.stages.items (pes_of {N = g.row.N}) in
    begun_next g.row.N c.loop-stage.stage c.args.store.now (shape_of c.args.conf.now) (shape_of c.loop-stage.conf) (shape_of c.begin.new.self) c.row.result.now c.loop-stage.invariant
    (omega (arith, c.args.conf.now.stages.ok.0, c.stages-stage-end.ensures, c.loop-stage-test.true)) c.row.ensures.row c.row.ensures.size c.begin.ensures.stages c.begin.ensures.inputs c.begin.ensures.outputs

pub returns-clause-shape : goal.returns-clause-shape
returns-clause-shape g c =
    let n = length-map c.args.conf.now.stages.items (pes_of {N = g.row.N}) in
    begun_whole g.row.N c.loop-stage.stage (rows_of c.args.store.now) (shape_of c.args.conf.now) (shape_of c.loop-stage.conf) c.loop-stage.invariant
    (omega (arith, c.args.conf.now.stages.ok.0, c.stages-stage-end.ensures, c.loop-stage-test.false))

pub returns-clause-states : goal.returns-clause-states
returns-clause-states g c = λ s h.
    let n = length-map c.args.conf.now.stages.items (pes_of {N = g.row.N}) in
    let m = length-map c.loop-stage.conf.stages.items (pes_of {N = g.row.N}) in
    let count = c.loop-stage.invariant.count in
    begun_state g.row.N g.row.P c.loop-stage.stage (rows_of c.args.store.now) (shape_of c.args.conf.now) (shape_of c.loop-stage.conf) s c.loop-stage.invariant
    (omega (arith, c.args.conf.now.stages.ok.0, c.loop-stage.conf.stages.ok.0, c.stages-stage-end.ensures, c.loop-stage-test.false))
    (long_stage c.args.conf.now.stages.items s (omega (arith, c.args.conf.now.stages.ok.0, c.loop-stage.conf.stages.ok.0)))
