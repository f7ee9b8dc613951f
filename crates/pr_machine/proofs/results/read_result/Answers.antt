use Rattle.std.proofs.Common.{◌∙◌, ap, sym, refl, length, lit<, vec_capacity}
use Rattle.pr_conf.specs.Rules.{bytes_in}
use Rattle.pr_machine.specs.Places.{bytes_of}
use Rattle.pr_machine.specs.Results.{bytes_read}
use Rattle.pr_machine.proofs.Outputs.{read_shaped, whole, widths_shaped, outputs_lawful, widths_left}
use Rattle.pr_machine.proofs.results.read_result.Goals as goal

pub append_outputs-requires : goal.append_outputs-requires
append_outputs-requires g c = (
  lit< tt,
  (
    outputs_lawful g.row.N g.row.P c.args.conf.now.outputs.items c.deref.result.now c.args.conf.now.lawful_outputs c.deref.ensures.value,
    (c.clear.ensures.items, widths_left c.args.conf.now.outputs.items c.deref.result.now (vec_capacity c.args.into.now) (vec_capacity c.clear.new.self) c.deref.ensures.value (sym c.clear.ensures.capacity) c.requires),
  ),
)

pub returns-clause-bytes : goal.returns-clause-bytes
returns-clause-bytes g c = c.append_outputs.ensures.bytes ∙ (ap (bytes_read g.row.N (bytes_of c.args.row.now)) c.deref.ensures.value ∙ read_shaped g.row.N (bytes_of c.args.row.now) c.args.conf.now.outputs.items)

pub returns-clause-length : goal.returns-clause-length
returns-clause-length g c =
    let outputs = c.args.conf.now.outputs.items in
    ap length (c.append_outputs.ensures.bytes ∙ ap (bytes_read g.row.N (bytes_of c.args.row.now)) c.deref.ensures.value)
    ∙ (whole g.row.N g.row.P (bytes_of c.args.row.now) outputs (outputs_lawful g.row.N g.row.P outputs outputs c.args.conf.now.lawful_outputs refl) ∙ ap bytes_in (sym (widths_shaped outputs)))
