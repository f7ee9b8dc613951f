use Rattle.std.proofs.Common.{refl}
use Rattle.pr_control.proofs.StateRowLaws.{row_room, row_is, row_long}
use Rattle.pr_control.proofs.states.Store.row.Goals as goal

pub row_at-requires : goal.row_at-requires
row_at-requires g c = row_room g.row.N g.row.N c.args.stage c.self.inside.bytes.items c.deref.result.now c.args.self.now c.self.view_is c.requires c.deref.ensures.value refl

pub returns-clause-row : goal.returns-clause-row
returns-clause-row g c = row_is g.row.N c.args.stage c.self.inside.bytes.items c.deref.result.now c.row_at.result.now c.args.self.now c.self.view_is c.requires c.deref.ensures.value c.row_at.ensures

pub returns-clause-size : goal.returns-clause-size
returns-clause-size g c = row_long g.row.N c.args.stage c.self.inside.bytes.items c.deref.result.now c.row_at.result.now c.args.self.now c.self.view_is c.requires c.deref.ensures.value c.row_at.ensures
