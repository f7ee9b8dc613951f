use Rattle.std.proofs.Common.{ap, inl, inr}
use Rattle.std.proofs.lemmas.Result.{on_ok_weaker}
use Rattle.pr_lens_graph.specs.Reads.{byte_unit, state_unit}
use Rattle.pr_lens_graph.proofs.ReadLaws.{byte_read, state_read, unread}
use Rattle.pr_lens_graph.proofs.wires.note_wire.Goals as goal

pub returns-in-Const : goal.returns-in-Const
returns-in-Const c = λ seen are. elim c.in-Const.is [
  | inl byte ↦ unread c.args.reads.now seen c.args.wire are (ap byte_unit byte.1) (ap state_unit byte.1)
  | inr place ↦ unread c.args.reads.now seen c.args.wire are (ap byte_unit place.1) (ap state_unit place.1)
]

pub returns-in-Of : goal.returns-in-Of
returns-in-Of c =
    on_ok_weaker c.note.result (λ noted seen are. byte_read c.args.reads.now seen c.args.wire are c.in-Of.unit c.note.new.all (ap byte_unit c.in-Of.is) (ap state_unit c.in-Of.is) noted) c.note.ensures

pub returns-in-State : goal.returns-in-State
returns-in-State c =
    let note = c.note-in-State in
    on_ok_weaker note.result (λ noted seen are. state_read c.args.reads.now seen c.args.wire are c.in-State.unit note.new.all (ap byte_unit c.in-State.is) (ap state_unit c.in-State.is) noted) note.ensures
