use Rattle.pr_tool_modes.proofs.OrderLemmas.{order_once, order_one}
use Rattle.pr_lens_tool.proofs.calling.made.Goals as goal

pub returns-in-OfProgram-clause-once : goal.returns-in-OfProgram-clause-once
returns-in-OfProgram-clause-once g c = λ q once. order_one (g.S.Shelf.view c.args.shelf.now).reach (g.S.Shelf.view c.of_file.new.shelf).reach c.args.target.now.file.now q (order_once _ _ _ c.of_file.ensures.once) c.of_file.ensures.others
