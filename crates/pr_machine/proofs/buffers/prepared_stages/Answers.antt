use Rattle.std.proofs.Common.{◌≡◌, ◌-◌, ◌<◌, map, arith, length}
use Rattle.std.proofs.lemmas.Result.{IfOk-from_err}
use Rattle.pr_conf.specs.Configuration.{pes_of}
use Rattle.pr_machine.proofs.ReadyLaws.{next_ready, ready_more, same_ready}
use Rattle.pr_machine.proofs.buffers.prepared_stages.Goals as goal

pub loop-stage-preserved : goal.loop-stage-preserved
loop-stage-preserved g c =
    let conf = c.args.conf.now in
    let had = c.loop-stage.prepared in
    let all = map (pes_of {N = g.row.N}) conf.stages.items in
    let many : length had.items ≡ c.loop-stage.stage-index = omega (arith, had.ok.0, c.loop-stage.invariant.count) in
    let below : c.loop-stage.stage-index < length conf.stages.items = omega (arith, c.loop-stage-test.true, c.deref-stage-items.ensures.len, conf.stages.ok.0) in
    record {
      ready = same_ready (g.row.P - 1) all _ c.push.new.self.items c.in_ok-push.ensures.items (ready_more (g.row.P - 1) all had.items c.in_ok-prepared_stage.field-0 c.loop-stage.invariant.ready
          (next_ready (g.row.P - 1) conf.stages.items c.deref-stage-items.result.now c.loop-stage.stage-index (length had.items) c.stage-item.result c.in_ok-prepared_stage.field-0 c.deref-stage-items.ensures.value many below c.stage-item.is c.in_ok-prepared_stage.ensures));
      count = omega (arith, c.in_ok-push.ensures.len, c.loop-stage.invariant.count);
    }

pub returns-in_err-prepared_stage : goal.returns-in_err-prepared_stage
returns-in_err-prepared_stage g c = let h = c.from_residual.ensures.0 in record { ready = IfOk-from_err _ _ h; count = IfOk-from_err _ _ h }

pub returns-in_err-push : goal.returns-in_err-push
returns-in_err-push g c = let h = c.from_residual-in_err-push.ensures.0 in record { ready = IfOk-from_err _ _ h; count = IfOk-from_err _ _ h }
