use Rattle.pr_control.proofs.StateRowLaws.{count-rows_in}
use Rattle.pr_control.proofs.states.Store.make.Goals as goal

pub returns-clause-count : goal.returns-clause-count
returns-clause-count g c = let e = c.in_ok-bytes.ensures.items in count-rows_in g.row.N c.in_ok-bytes.bytes.items c.args.rows.now e c.requires
