use Rattle.std.proofs.Common.{◌+◌, drop, map, ap, ◌∙◌, arith, None, Some, cond}
use Rattle.std.proofs.lemmas.Result.{err_from_is_err_and}
use Rattle.std.proofs.lemmas.List.{length-map}
use Rattle.pr_conf.specs.Shape.{output_shape}
use Rattle.pr_conf.specs.Configuration.{pes_of}
use Rattle.pr_conf.specs.Rules.{bytes_in}
use Rattle.pr_code.specs.Reading.{words_of_bytes, shape_in}
use Rattle.pr_code.proofs.BreakLemmas.{part_refused, refused}
use Rattle.pr_code.proofs.SoundShapes.{shape_sound}
use Rattle.pr_code.proofs.DecodeLemmas.{inputs_refused, outputs_refused, stages_there, end_is, file_broken, file_ended, at_is, next_is, inputs_are, outputs_are, stages_are, same_shape, parts_lawful}
use Rattle.pr_code.proofs.decoding.configuration_at.Goals as goal

pub returns-in_err-inputs : goal.returns-in_err-inputs
returns-in_err-inputs g c =
    let p = err_from_is_err_and c.from_residual-in_err-inputs.result c.from_residual-in_err-inputs.ensures.1 in
    part_refused c.from_residual-in_err-inputs.result _ _ _ _ _ p c.in_err-inputs.ensures (inputs_refused c.args.format g.row.N g.row.P c.args.place c.args.bytes.now c.in_ok-count.ensures.0)

pub returns-in_err-outputs : goal.returns-in_err-outputs
returns-in_err-outputs g c =
    let p = err_from_is_err_and c.from_residual-in_err-outputs.result c.from_residual-in_err-outputs.ensures.1 in
    let at = at_is c.args.place c.len.result (words_of_bytes c.args.bytes.now) (c.len.ensures ∙ c.in_ok-inputs.ensures.1.1) in
    part_refused c.from_residual-in_err-outputs.result _ _ _ _ _ p c.in_err-outputs.ensures (outputs_refused c.args.format g.row.N g.row.P c.args.place (c.args.place + 3 + (1 + c.len.result)) c.args.bytes.now c.in_ok-count.ensures.0 c.in_ok-inputs.ensures.0 at)

pub returns-in_err-stages : goal.returns-in_err-stages
returns-in_err-stages g c =
    let p = err_from_is_err_and c.from_residual-in_err-stages.result c.from_residual-in_err-stages.ensures.1 in
    let all = words_of_bytes c.args.bytes.now in
    let at = at_is c.args.place c.len.result all (c.len.ensures ∙ c.in_ok-inputs.ensures.1.1) in
    let next = next_is c.args.place _ c.in_ok-outputs.next all at c.in_ok-outputs.ensures.1.1 in
    let bus = c.bytes_of-bus.ensures ∙ ap bytes_in (c.deref.ensures.value ∙ inputs_are c.args.place all c.in_ok-inputs.inputs.items c.in_ok-inputs.ensures.1.0) in
    part_refused c.from_residual-in_err-stages.result _ _ _ _ _ p c.in_err-stages.ensures
    (λ x b. file_broken c.args.format g.row.N g.row.P c.args.place c.args.bytes.now x
    (stages_there c.args.format g.row.N g.row.P c.args.place (c.args.place + 3 + (1 + c.len.result)) c.in_ok-outputs.next c.bytes_of-bus.result c.in_ok-count.field-0 c.args.bytes.now (Some x) c.in_ok-count.ensures.0 c.in_ok-inputs.ensures.0 at c.in_ok-outputs.ensures.0 next bus c.in_ok-count.ensures.1.0 b))

pub returns-in_err-demand : goal.returns-in_err-demand
returns-in_err-demand g c =
    let p = err_from_is_err_and c.from_residual-in_err-demand.result c.from_residual-in_err-demand.ensures.1 in
    let all = words_of_bytes c.args.bytes.now in
    let at = at_is c.args.place c.len.result all (c.len.ensures ∙ c.in_ok-inputs.ensures.1.1) in
    let next = next_is c.args.place _ c.in_ok-outputs.next all at c.in_ok-outputs.ensures.1.1 in
    let bus = c.bytes_of-bus.ensures ∙ ap bytes_in (c.deref.ensures.value ∙ inputs_are c.args.place all c.in_ok-inputs.inputs.items c.in_ok-inputs.ensures.1.0) in
    let whole = stages_there c.args.format g.row.N g.row.P c.args.place (c.args.place + 3 + (1 + c.len.result)) c.in_ok-outputs.next c.bytes_of-bus.result c.in_ok-count.field-0 c.args.bytes.now None c.in_ok-count.ensures.0 c.in_ok-inputs.ensures.0 at c.in_ok-outputs.ensures.0 next bus c.in_ok-count.ensures.1.0 c.in_ok-stages.ensures.0 in
    let end = end_is c.args.format g.row.N g.row.P c.args.place (c.args.place + 3 + (1 + c.len.result)) c.in_ok-outputs.next c.in_ok-stages.end c.in_ok-count.field-0 c.args.bytes.now at next c.in_ok-count.ensures.1.0 c.in_ok-stages.ensures.1.2 in
    refused c.from_residual-in_err-demand.result _ _ _ _ _ p c.in_err-demand.ensures.1
    (file_ended c.args.format g.row.N g.row.P c.args.place c.in_ok-stages.end c.args.bytes.now whole end ∙ ap (λ b. cond b None (Some (record { rule = 7; place = c.in_ok-stages.end }))) c.in_err-demand.ensures.0)

pub invariant_of-result : goal.invariant_of-result
invariant_of-result g c =
    let all = words_of_bytes c.args.bytes.now in
    let at = at_is c.args.place c.len.result all (c.len.ensures ∙ c.in_ok-inputs.ensures.1.1) in
    let next = next_is c.args.place _ c.in_ok-outputs.next all at c.in_ok-outputs.ensures.1.1 in
    let inputs = inputs_are c.args.place all c.in_ok-inputs.inputs.items c.in_ok-inputs.ensures.1.0 in
    let outputs = outputs_are c.args.place _ all (map output_shape c.in_ok-outputs.outputs.items) at c.in_ok-outputs.ensures.1.0 in
    let stages = stages_are c.args.format.packed g.row.N c.args.place _ c.in_ok-outputs.next c.in_ok-count.field-0 all (map (pes_of {N = g.row.N}) c.in_ok-stages.stages.items) at next c.in_ok-count.ensures.1.0 c.in_ok-stages.ensures.1.0 in
    let bus = c.bytes_of-bus.ensures ∙ ap bytes_in (c.deref.ensures.value ∙ inputs) in
    let whole = stages_there c.args.format g.row.N g.row.P c.args.place (c.args.place + 3 + (1 + c.len.result)) c.in_ok-outputs.next c.bytes_of-bus.result c.in_ok-count.field-0 c.args.bytes.now None c.in_ok-count.ensures.0 c.in_ok-inputs.ensures.0 at c.in_ok-outputs.ensures.0 next bus c.in_ok-count.ensures.1.0 c.in_ok-stages.ensures.0 in
    let sound = shape_sound c.args.format g.row.N g.row.P c.args.place (drop c.args.place all) c.requires.columns c.requires.most_columns c.requires.registers c.requires.most_registers whole in
    let law = parts_lawful g.row.N g.row.P c.in_ok-inputs.inputs.items (map output_shape c.in_ok-outputs.outputs.items) (map (pes_of {N = g.row.N}) c.in_ok-stages.stages.items) (shape_in c.args.format.packed g.row.N (drop c.args.place all)) inputs outputs stages (sound.lawful c.requires.widest) in
    let count = length-map c.in_ok-stages.stages.items (pes_of {N = g.row.N}) in
    record {
      columns = c.requires.columns;
      most_columns = c.requires.most_columns;
      registers = c.requires.registers;
      most_registers = c.requires.most_registers;
      some = omega (arith, law.some, count);
      few = omega (arith, law.few, count);
      lawful_inputs = law.inputs_lawful;
      lawful_outputs = law.outputs_lawful;
      lawful_stages = law.stages_lawful;
    }

pub returns : goal.returns
returns g c =
    let all = words_of_bytes c.args.bytes.now in
    let at = at_is c.args.place c.len.result all (c.len.ensures ∙ c.in_ok-inputs.ensures.1.1) in
    let next = next_is c.args.place _ c.in_ok-outputs.next all at c.in_ok-outputs.ensures.1.1 in
    let inputs = inputs_are c.args.place all c.in_ok-inputs.inputs.items c.in_ok-inputs.ensures.1.0 in
    let outputs = outputs_are c.args.place _ all (map output_shape c.in_ok-outputs.outputs.items) at c.in_ok-outputs.ensures.1.0 in
    let stages = stages_are c.args.format.packed g.row.N c.args.place _ c.in_ok-outputs.next c.in_ok-count.field-0 all (map (pes_of {N = g.row.N}) c.in_ok-stages.stages.items) at next c.in_ok-count.ensures.1.0 c.in_ok-stages.ensures.1.0 in
    let bus = c.bytes_of-bus.ensures ∙ ap bytes_in (c.deref.ensures.value ∙ inputs) in
    let whole = stages_there c.args.format g.row.N g.row.P c.args.place (c.args.place + 3 + (1 + c.len.result)) c.in_ok-outputs.next c.bytes_of-bus.result c.in_ok-count.field-0 c.args.bytes.now None c.in_ok-count.ensures.0 c.in_ok-inputs.ensures.0 at c.in_ok-outputs.ensures.0 next bus c.in_ok-count.ensures.1.0 c.in_ok-stages.ensures.0 in
    let end = end_is c.args.format g.row.N g.row.P c.args.place (c.args.place + 3 + (1 + c.len.result)) c.in_ok-outputs.next c.in_ok-stages.end c.in_ok-count.field-0 c.args.bytes.now at next c.in_ok-count.ensures.1.0 c.in_ok-stages.ensures.1.2 in (
      file_ended c.args.format g.row.N g.row.P c.args.place c.in_ok-stages.end c.args.bytes.now whole end ∙ ap (λ b. cond b None (Some (record { rule = 7; place = c.in_ok-stages.end }))) c.in_ok-demand.ensures,
      same_shape c.in_ok-inputs.inputs.items (map output_shape c.in_ok-outputs.outputs.items) (map (pes_of {N = g.row.N}) c.in_ok-stages.stages.items) (shape_in c.args.format.packed g.row.N (drop c.args.place all)) inputs outputs stages,
    )
