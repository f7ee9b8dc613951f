use Rattle.std.proofs.Common.{◌∙◌, ap}
use Rattle.pr_conf.specs.Configuration.{shape_of}
use Rattle.pr_lens_rtl.specs.Module.{last_of, tap_wires}
use Rattle.pr_lens_rtl_terms.proofs.TapLemmas.{same_taps, taps_room}
use Rattle.pr_lens_rtl_terms.proofs.edges.tap_lines.Goals as goal

pub add_outputs-requires-clause-room : goal.add_outputs-requires-clause-room
add_outputs-requires-clause-room g c = rw c.deref.ensures.value (taps_room g.row.N g.row.P c.args.conf.now.outputs.items c.args.conf.now.lawful_outputs)

pub returns : goal.returns
returns g c =
    c.in_ok-add_outputs.ensures
    ∙ rw (c.new-lines.ensures.items, c.last_stage.ensures.last, c.deref.ensures.value) (ap (tap_wires g.row.N (last_of (shape_of c.args.conf.now)) 0) (same_taps c.args.conf.now.outputs.items))
