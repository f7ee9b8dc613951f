use Rattle.std.proofs.Common.{true, ◌≡◌, ◌≤◌, ◌++◌, length, map, arith, sym, ◌∷◌}
use Rattle.std.proofs.lemmas.Result.{IfOk-from_err}
use Rattle.std.specs.List.{flat_map}
use Rattle.std.proofs.lemmas.List.{length-map}
use Rattle.pr_conf.specs.Rules.{bytes_in}
use Rattle.pr_conf.specs.Shape.{output_shape}
use Rattle.pr_code.specs.Spelling.{format_2, bytes_of_words, head_words, output_words, stage_words}
use Rattle.pr_conf.specs.Configuration.{pes_of}
use Rattle.pr_code.proofs.WritingLemmas.{four_parts, stage_choices, inputs_few}
use Rattle.pr_code.proofs.encoding.put_configuration.Goals as goal

pub put_inputs-requires : goal.put_inputs-requires
put_inputs-requires g c =
    let few : length c.args.conf.now.inputs.items ≤ g.row.N = inputs_few g.row.N c.args.conf.now.inputs.items c.args.conf.now.lawful_inputs in
    let most : g.row.N ≤ 64 = c.args.conf.now.most_columns in
    rw c.deref.ensures.value (omega arith)

pub put_stages-requires : goal.put_stages-requires
put_stages-requires g c =
    (omega arith, (c.args.conf.now.most_columns, rw c.deref-3.ensures.value (stage_choices g.row.N g.row.P (bytes_in c.args.conf.now.inputs.items) 0 (map pes_of c.args.conf.now.stages.items) c.args.conf.now.lawful_stages)))

pub returns-clause-words : goal.returns-clause-words
returns-clause-words g c =
    let out = c.args.out.now.items in
    let conf = c.args.conf.now in
    let stages = map pes_of conf.stages.items in
    let outputs = map output_shape conf.outputs.items in
    let count : c.len.result ≡ length stages = omega (arith, c.len.ensures, length-map conf.stages.items (pes_of {N = g.row.N})) in
    let count' : length c.deref-2.result.now ≡ length outputs = rw c.deref-2.ensures.value (sym (length-map conf.outputs.items output_shape)) in
    let head : c.put_words.new.out.items ≡ out ++ bytes_of_words (head_words format_2 g.row.N g.row.P (length stages)) = rw (← count) c.in_ok-put_words.ensures in
    let first : c.put_inputs.new.out.items ≡ c.put_words.new.out.items ++ bytes_of_words (length conf.inputs.items ∷ conf.inputs.items) = rw (← c.deref.ensures.value) c.in_ok-put_inputs.ensures in
    let second : c.put_outputs.new.out.items ≡ c.put_inputs.new.out.items ++ bytes_of_words (length outputs ∷ flat_map output_words outputs) = rw (← count', ← c.deref-2.ensures.value) c.in_ok-put_outputs.ensures.words in
    let third : c.put_stages.new.out.items ≡ c.put_outputs.new.out.items ++ bytes_of_words (flat_map (stage_words true g.row.N) stages) = rw (← c.deref-3.ensures.value) c.in_ok-put_stages.ensures.words in
    four_parts out _ _ _ _ (head_words format_2 g.row.N g.row.P (length stages)) (length conf.inputs.items ∷ conf.inputs.items) (length outputs ∷ flat_map output_words outputs) (flat_map (stage_words true g.row.N) stages) head first second third

pub returns-in_err-put_words : goal.returns-in_err-put_words
returns-in_err-put_words g c = let h = c.from_residual.ensures.0 in record { words = IfOk-from_err _ _ h; bytes = IfOk-from_err _ _ h }

pub returns-in_err-put_inputs : goal.returns-in_err-put_inputs
returns-in_err-put_inputs g c = let h = c.from_residual-in_err-put_inputs.ensures.0 in record { words = IfOk-from_err _ _ h; bytes = IfOk-from_err _ _ h }

pub returns-in_err-put_outputs : goal.returns-in_err-put_outputs
returns-in_err-put_outputs g c = let h = c.from_residual-in_err-put_outputs.ensures.0 in record { words = IfOk-from_err _ _ h; bytes = IfOk-from_err _ _ h }

pub returns-in_err-put_stages : goal.returns-in_err-put_stages
returns-in_err-put_stages g c = let h = c.from_residual-in_err-put_stages.ensures.0 in record { words = IfOk-from_err _ _ h; bytes = IfOk-from_err _ _ h }
