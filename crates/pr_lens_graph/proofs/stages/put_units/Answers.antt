use Rattle.std.proofs.Common.{◌≡◌, slice_index_or, arith}
use Rattle.pr_lens_graph.proofs.NodeLaws.{units_done, units_more}
use Rattle.pr_lens_graph.proofs.stages.put_units.Goals as goal

pub loop-number-preserved : goal.loop-number-preserved
loop-number-preserved c =
    let loop = c.loop-number in
    let unit = c.index-units-number.result in
    let is : c.deref.result.now ≡ slice_index_or c.args.units.now loop.number unit = cc in
    units_more c.args.names.now c.args.units.now c.args.stages.now loop.number c.args.texts.now loop.texts loop.invariant c.deref.result.now unit c.put_unit.new.texts c.loop-number-test.true is c.in_ok-put_unit.ensures

pub returns : goal.returns
returns c =
    let loop = c.loop-number in
    units_done c.args.names.now c.args.units.now c.args.stages.now loop.number c.args.texts.now loop.texts loop.invariant (omega arith)
