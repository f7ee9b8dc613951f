use Rattle.std.proofs.Common.{◌++◌}
use Rattle.std.proofs.lemmas.Result.{err_from_is_err_and}
use Rattle.pr_conf.specs.Configuration.{shape_of}
use Rattle.pr_lens_rtl.specs.Module.{hand_wires, last_of, module_of, stages_wires, tap_wires, taps_of}
use Rattle.pr_lens_rtl_text.specs.declared.lines.Way.{Way}
use Rattle.pr_lens_rtl_text.specs.Notes.{note_of}
use Rattle.pr_lens_rtl_text.specs.Printed.{kept_text}
use Rattle.pr_lens_rtl_text.proofs.LimitLemmas.{at_fault}
use Rattle.pr_lens_rtl_text.proofs.WholeLemmas.{kept_within, three_kept}
use Rattle.pr_lens_rtl_text.proofs.whole.put_all_wires.Goals as goal

pub returns-clause-text : goal.returns-clause-text
unfolding module_of
returns-clause-text g c =
    let shape = shape_of c.args.conf.now in
    three_kept (note_of c.args.notes.now c.args.marks.now) Way.Wire c.args.marks.now c.args.text.now.items (stages_wires g.row.N 0 shape.stages) (hand_wires (last_of shape)) (tap_wires g.row.N (last_of shape) 0 (taps_of shape))
    (rw c.deref.ensures.value at c.in_ok-put_stages.ensures.text) (rw (c.hand_lines.ensures, c.last_stage.ensures.last) at c.in_ok-put_lines.ensures) (rw (c.deref-2.ensures.value, c.in_ok-taps.ensures) at c.in_ok-put_lines-2.ensures)

pub returns-in_err-put_stages-clause-refused : goal.returns-in_err-put_stages-clause-refused
unfolding module_of
returns-in_err-put_stages-clause-refused g c =
    let shape = shape_of c.args.conf.now in
    let wires = stages_wires g.row.N 0 shape.stages in
    let rest = hand_wires (last_of shape) ++ tap_wires g.row.N (last_of shape) 0 (taps_of shape) in
    let r = c.from_residual-in_err-put_stages in
    at_fault r.result (c.args.text.now.items ++ kept_text (note_of c.args.notes.now c.args.marks.now) Way.Wire c.args.marks.now wires) (c.args.text.now.items ++ kept_text (note_of c.args.notes.now c.args.marks.now) Way.Wire c.args.marks.now (wires ++ rest)) _ (err_from_is_err_and r.result r.ensures.1)
    (kept_within (note_of c.args.notes.now c.args.marks.now) Way.Wire c.args.marks.now c.args.text.now.items wires rest) (rw c.deref.ensures.value at c.in_err-put_stages.ensures.refused)
