use Rattle.std.proofs.lemmas.Result.{on_ok_weaker}
use Rattle.pr_lens_graph.proofs.NodeLaws.{node_gained}
use Rattle.pr_lens_graph.proofs.stages.put_unit.Goals as goal

pub returns-then-stage-texts : goal.returns-then-stage-texts
returns-then-stage-texts c =
    on_ok_weaker c.put_node.result (λ put. node_gained c.args.names.now c.args.stages.now c.args.number c.args.cells.now c.args.texts.now c.index-texts-stage.result c.put_node.new.text c.if-number-stages.true c.if-stage-texts.true put) c.put_node.ensures
