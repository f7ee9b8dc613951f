use Rattle.std.proofs.Common.{sym}
use Rattle.pr_conf.proofs.AfterLaws.{begun_none, begun_turn}
use Rattle.pr_conf.proofs.stages.begin_each.Goals as goal

pub loop-col-init : goal.loop-col-init
loop-col-init c = sym (begun_none c.args.pes.now)

pub loop-col-preserved : goal.loop-col-preserved
loop-col-preserved c = begun_turn c.args.pes.now c.loop-col.pes c.args.state.now c.loop-col.col _ c.loop-col.invariant c.loop-col-test.true c.requires
