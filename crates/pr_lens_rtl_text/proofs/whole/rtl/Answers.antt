use Rattle.std.proofs.Common.{◌<◌, ◌≤◌, ◌++◌, arith, codes, length, refl}
use Rattle.std.proofs.lemmas.List.{length-map}
use Rattle.std.proofs.lemmas.Result.{err_from_is_err_and}
use Rattle.pr_conf.specs.Configuration.{pes_of}
use Rattle.pr_lens_rtl_names.specs.Names.{port_name}
use Rattle.pr_conf.specs.Configuration.{shape_of}
use Rattle.pr_conf.specs.Through.{output_widths}
use Rattle.pr_lens_rtl.specs.Module.{module_of}
use Rattle.pr_lens_rtl.specs.Kept.{marks_of}
use Rattle.pr_lens_rtl_text.specs.declared.lines.Way.{Way}
use Rattle.pr_lens_rtl_names.specs.declared.names.Side.{Side}
use Rattle.pr_lens_rtl_text.specs.Notes.{note_of}
use Rattle.pr_lens_rtl_text.specs.Printed.{kept_text}
use Rattle.pr_lens_rtl_text.specs.Ports.{ports_text, side_lines}
use Rattle.pr_lens_rtl_text.specs.Modules.{head_text, module_text, ports_by}
use Rattle.pr_lens_rtl_text.proofs.LimitLemmas.{at_fault, same_length}
use Rattle.pr_lens_rtl_text.proofs.WholeLemmas.{eight_pieces, four_within, seven_within, three_within}
use Rattle.pr_lens_rtl_text.proofs.whole.rtl.Goals as goal

pub returns-clause-made : goal.returns-clause-made
unfolding module_text kept_text
returns-clause-made g c =
    let shape = shape_of c.args.conf.now in
    let inputs = ports_by Side.Input c.args.program.now shape.inputs in
    let outputs = ports_by Side.Output c.args.program.now (output_widths shape) in
    let marks = marks_of g.row.N g.row.P shape in
    let m = module_of g.row.N g.row.P shape in
    let text = eight_pieces (head_text (port_name c.args.name.now) ++ ports_text Side.Input inputs ++ ports_text Side.Output outputs ++ codes "\n);\n") (side_lines Side.Input 0 inputs)
    (kept_text (note_of c.args.notes.now marks) Way.Declared marks m.registers) (kept_text (note_of c.args.notes.now marks) Way.Wire marks m.wires) (side_lines Side.Output 0 outputs)
    (codes "always @(posedge clock) begin\n") (kept_text (note_of c.args.notes.now marks) Way.Clocked marks m.registers) (codes "end\nendmodule\n")
    c.new-text.ensures.items
    (rw (c.deref.ensures.value, c.deref-2.ensures.value, c.deref-3.ensures.value, c.in_ok-name.ensures, c.in_ok-inputs.ensures.ports, c.in_ok-outputs.ensures.ports) at c.in_ok-put_heading.ensures)
    (rw (c.deref-4.ensures.value, c.in_ok-inputs.ensures.ports) at c.in_ok-put_side_lines.ensures)
    (rw (c.deref-5.ensures.value, c.in_ok-marks.ensures) at c.in_ok-put_all_registers.ensures.text)
    (rw (c.deref-6.ensures.value, c.in_ok-marks.ensures) at c.in_ok-put_all_wires.ensures.text)
    (rw (c.deref-7.ensures.value, c.in_ok-outputs.ensures.ports) at c.in_ok-put_side_lines-2.ensures)
    c.in_ok-put.ensures
    (rw (c.deref-8.ensures.value, c.in_ok-marks.ensures) at c.in_ok-put_all_registers-2.ensures.text)
    c.in_ok-put_end.ensures.text in
    let conf = c.args.conf.now in
    let some : 0 < length shape.stages = omega (arith, conf.some, conf.stages.ok.0, length-map conf.stages.items pes_of) in
    let few : length shape.stages ≤ 32768 = omega (arith, conf.few, conf.stages.ok.0, length-map conf.stages.items pes_of) in
    record {
      is = text;
      lawful = record {
        columns = conf.columns;
        most_columns = conf.most_columns;
        registers = conf.registers;
        most_registers = conf.most_registers;
        some = some;
        few = few;
        inputs = conf.lawful_inputs;
        outputs = conf.lawful_outputs;
        stages = conf.lawful_stages;
      };
      bytes = c.see_bytes.ensures;
    }

pub returns-in_err-put_all_registers-clause-refused : goal.returns-in_err-put_all_registers-clause-refused
unfolding module_text kept_text
returns-in_err-put_all_registers-clause-refused g c =
    let shape = shape_of c.args.conf.now in
    let inputs = ports_by Side.Input c.args.program.now shape.inputs in
    let outputs = ports_by Side.Output c.args.program.now (output_widths shape) in
    let marks = marks_of g.row.N g.row.P shape in
    let m = module_of g.row.N g.row.P shape in
    let r = c.from_residual-in_err-put_all_registers in
    at_fault r.result _ _ _ (err_from_is_err_and r.result r.ensures.1)
    (three_within (head_text (port_name c.args.name.now) ++ ports_text Side.Input inputs ++ ports_text Side.Output outputs ++ codes "\n);\n") (side_lines Side.Input 0 inputs)
    (kept_text (note_of c.args.notes.now marks) Way.Declared marks m.registers) (kept_text (note_of c.args.notes.now marks) Way.Wire marks m.wires) (side_lines Side.Output 0 outputs)
    (codes "always @(posedge clock) begin\n") (kept_text (note_of c.args.notes.now marks) Way.Clocked marks m.registers) (codes "end\nendmodule\n")
    c.new-text.ensures.items
    (rw (c.deref.ensures.value, c.deref-2.ensures.value, c.deref-3.ensures.value, c.in_ok-name.ensures, c.in_ok-inputs.ensures.ports, c.in_ok-outputs.ensures.ports) at c.in_ok-put_heading.ensures)
    (rw (c.deref-4.ensures.value, c.in_ok-inputs.ensures.ports) at c.in_ok-put_side_lines.ensures))
    (rw (c.deref-5.ensures.value, c.in_ok-marks.ensures) at c.in_err-put_all_registers.ensures.refused)

pub returns-in_err-put_all_wires-clause-refused : goal.returns-in_err-put_all_wires-clause-refused
unfolding module_text kept_text
returns-in_err-put_all_wires-clause-refused g c =
    let shape = shape_of c.args.conf.now in
    let inputs = ports_by Side.Input c.args.program.now shape.inputs in
    let outputs = ports_by Side.Output c.args.program.now (output_widths shape) in
    let marks = marks_of g.row.N g.row.P shape in
    let m = module_of g.row.N g.row.P shape in
    let r = c.from_residual-in_err-put_all_wires in
    at_fault r.result _ _ _ (err_from_is_err_and r.result r.ensures.1)
    (four_within (head_text (port_name c.args.name.now) ++ ports_text Side.Input inputs ++ ports_text Side.Output outputs ++ codes "\n);\n") (side_lines Side.Input 0 inputs)
    (kept_text (note_of c.args.notes.now marks) Way.Declared marks m.registers) (kept_text (note_of c.args.notes.now marks) Way.Wire marks m.wires) (side_lines Side.Output 0 outputs)
    (codes "always @(posedge clock) begin\n") (kept_text (note_of c.args.notes.now marks) Way.Clocked marks m.registers) (codes "end\nendmodule\n")
    c.new-text.ensures.items
    (rw (c.deref.ensures.value, c.deref-2.ensures.value, c.deref-3.ensures.value, c.in_ok-name.ensures, c.in_ok-inputs.ensures.ports, c.in_ok-outputs.ensures.ports) at c.in_ok-put_heading.ensures)
    (rw (c.deref-4.ensures.value, c.in_ok-inputs.ensures.ports) at c.in_ok-put_side_lines.ensures)
    (rw (c.deref-5.ensures.value, c.in_ok-marks.ensures) at c.in_ok-put_all_registers.ensures.text))
    (rw (c.deref-6.ensures.value, c.in_ok-marks.ensures) at c.in_err-put_all_wires.ensures.refused)

pub returns-in_err-put_all_registers-2-clause-refused : goal.returns-in_err-put_all_registers-2-clause-refused
unfolding module_text kept_text
returns-in_err-put_all_registers-2-clause-refused g c =
    let shape = shape_of c.args.conf.now in
    let inputs = ports_by Side.Input c.args.program.now shape.inputs in
    let outputs = ports_by Side.Output c.args.program.now (output_widths shape) in
    let marks = marks_of g.row.N g.row.P shape in
    let m = module_of g.row.N g.row.P shape in
    let r = c.from_residual-in_err-put_all_registers-2 in
    at_fault r.result _ _ _ (err_from_is_err_and r.result r.ensures.1)
    (seven_within (head_text (port_name c.args.name.now) ++ ports_text Side.Input inputs ++ ports_text Side.Output outputs ++ codes "\n);\n") (side_lines Side.Input 0 inputs)
    (kept_text (note_of c.args.notes.now marks) Way.Declared marks m.registers) (kept_text (note_of c.args.notes.now marks) Way.Wire marks m.wires) (side_lines Side.Output 0 outputs)
    (codes "always @(posedge clock) begin\n") (kept_text (note_of c.args.notes.now marks) Way.Clocked marks m.registers) (codes "end\nendmodule\n")
    c.new-text.ensures.items
    (rw (c.deref.ensures.value, c.deref-2.ensures.value, c.deref-3.ensures.value, c.in_ok-name.ensures, c.in_ok-inputs.ensures.ports, c.in_ok-outputs.ensures.ports) at c.in_ok-put_heading.ensures)
    (rw (c.deref-4.ensures.value, c.in_ok-inputs.ensures.ports) at c.in_ok-put_side_lines.ensures)
    (rw (c.deref-5.ensures.value, c.in_ok-marks.ensures) at c.in_ok-put_all_registers.ensures.text)
    (rw (c.deref-6.ensures.value, c.in_ok-marks.ensures) at c.in_ok-put_all_wires.ensures.text)
    (rw (c.deref-7.ensures.value, c.in_ok-outputs.ensures.ports) at c.in_ok-put_side_lines-2.ensures)
    c.in_ok-put.ensures)
    (rw (c.deref-8.ensures.value, c.in_ok-marks.ensures) at c.in_err-put_all_registers-2.ensures.refused)

pub returns-in_err-put_end-clause-refused : goal.returns-in_err-put_end-clause-refused
unfolding module_text kept_text
returns-in_err-put_end-clause-refused g c =
    let shape = shape_of c.args.conf.now in
    let inputs = ports_by Side.Input c.args.program.now shape.inputs in
    let outputs = ports_by Side.Output c.args.program.now (output_widths shape) in
    let marks = marks_of g.row.N g.row.P shape in
    let m = module_of g.row.N g.row.P shape in
    let r = c.from_residual-in_err-put_end in
    at_fault r.result _ _ _ (err_from_is_err_and r.result r.ensures.1)
    (same_length (eight_pieces (head_text (port_name c.args.name.now) ++ ports_text Side.Input inputs ++ ports_text Side.Output outputs ++ codes "\n);\n") (side_lines Side.Input 0 inputs)
    (kept_text (note_of c.args.notes.now marks) Way.Declared marks m.registers) (kept_text (note_of c.args.notes.now marks) Way.Wire marks m.wires) (side_lines Side.Output 0 outputs)
    (codes "always @(posedge clock) begin\n") (kept_text (note_of c.args.notes.now marks) Way.Clocked marks m.registers) (codes "end\nendmodule\n")
    c.new-text.ensures.items
    (rw (c.deref.ensures.value, c.deref-2.ensures.value, c.deref-3.ensures.value, c.in_ok-name.ensures, c.in_ok-inputs.ensures.ports, c.in_ok-outputs.ensures.ports) at c.in_ok-put_heading.ensures)
    (rw (c.deref-4.ensures.value, c.in_ok-inputs.ensures.ports) at c.in_ok-put_side_lines.ensures)
    (rw (c.deref-5.ensures.value, c.in_ok-marks.ensures) at c.in_ok-put_all_registers.ensures.text)
    (rw (c.deref-6.ensures.value, c.in_ok-marks.ensures) at c.in_ok-put_all_wires.ensures.text)
    (rw (c.deref-7.ensures.value, c.in_ok-outputs.ensures.ports) at c.in_ok-put_side_lines-2.ensures)
    c.in_ok-put.ensures
    (rw (c.deref-8.ensures.value, c.in_ok-marks.ensures) at c.in_ok-put_all_registers-2.ensures.text)
    refl))
    c.in_err-put_end.ensures.refused
