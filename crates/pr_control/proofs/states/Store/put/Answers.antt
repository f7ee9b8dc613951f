use Rattle.std.proofs.Common.{arith}
use Rattle.pr_control.proofs.StateRowLaws.{row_room, put_is}
use Rattle.pr_control.proofs.states.Store.put.Goals as goal

pub put_row-requires : goal.put_row-requires
put_row-requires g c = row_room g.row.N _ c.args.stage c.self.inside.bytes.items c.deref_mut.result.now c.args.self.now c.self.view_is c.requires.stage c.deref_mut.ensures.value c.requires.size

pub returns : goal.returns
returns g c = put_is g.row.N c.args.stage c.self.inside.bytes.len c.self.inside.bytes.items c.deref_mut.result.now c.put_row.new.bytes c.args.row.now c.args.self.now (omega (arith, c.self.inside.bytes.ok.0)) c.self.view_is c.requires.stage c.deref_mut.ensures.value c.requires.size c.put_row.auto.bytes c.put_row.ensures.put c.put_row.ensures.others
