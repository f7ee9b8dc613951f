use Rattle.std.proofs.Common.{◌∷◌, [], ap, subst}
use Rattle.std.proofs.lemmas.Result.{on_ok_weaker}
use Rattle.pr_cut_units.specs.Groups.{bit_wires}
use Rattle.pr_lens_graph.specs.Reads.{AreReads}
use Rattle.pr_lens_graph.proofs.ReadLaws.{wires_of_cell}
use Rattle.pr_lens_graph.proofs.wires.note_cell.Goals as goal

pub returns-in-Of : goal.returns-in-Of
returns-in-Of c =
    let last = c.note_wire-in-Of in
    on_ok_weaker last.result
    (λ noted seen are.
    let three = c.in_ok-note_wire-3.ensures _ (c.in_ok-note_wire-2.ensures _ (c.in_ok-note_wire.ensures seen are)) in
    subst (AreReads last.new.reads) (wires_of_cell seen c.args.cell.now (c.in-Of.wire ∷ []) (ap bit_wires c.in-Of.is)) (noted _ three))
    last.ensures
