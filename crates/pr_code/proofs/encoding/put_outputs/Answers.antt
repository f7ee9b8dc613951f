use Rattle.std.proofs.Common.{◌∷◌, [], length, map, arith, refl}
use Rattle.std.proofs.lemmas.Result.{IfOk-from_err}
use Rattle.std.specs.List.{flat_map, list_all}
use Rattle.pr_conf.specs.Shape.{output_shape}
use Rattle.pr_code.specs.Spelling.{output_words, have_tap_bytes}
use Rattle.pr_code.proofs.WritingLemmas.{goes_on, part_more, parts_done, all_next}
use Rattle.pr_code.proofs.encoding.put_outputs.Goals as goal

pub loop-output-init : goal.loop-output-init
loop-output-init c = record {
  words = rw c.in_ok-put_word.ensures (goes_on c.args.out.now.items _ (length c.args.outputs.now ∷ []) (flat_map output_words (map output_shape c.args.outputs.now)) refl);
  bytes = refl;
}

pub loop-output-preserved : goal.loop-output-preserved
loop-output-preserved c = record {
  words = rw c.in_ok-put_output.ensures.words (part_more (λ os. flat_map output_words (map output_shape os)) _ c.loop-output.out.items _ c.args.outputs.now c.loop-output.output-index c.output-item.result c.output-item.result c.loop-output-test.true c.output-item.is refl c.loop-output.invariant.words);
  bytes = all_next (λ os. list_all have_tap_bytes (map output_shape os)) c.args.outputs.now c.loop-output.output-index c.output-item.result _ _ c.loop-output-test.true c.output-item.is refl c.in_ok-put_output.ensures.bytes c.loop-output.invariant.bytes;
}

pub returns-clause-words : goal.returns-clause-words
returns-clause-words c = parts_done (λ os. flat_map output_words (map output_shape os)) c.loop-output.out.items _ c.args.outputs.now c.loop-output.output-index (omega arith) refl c.loop-output.invariant.words

pub returns-in_err-put_word : goal.returns-in_err-put_word
returns-in_err-put_word c = let h = c.from_residual.ensures.0 in record { words = IfOk-from_err _ _ h; bytes = IfOk-from_err _ _ h }

pub returns-in_err-put_output : goal.returns-in_err-put_output
returns-in_err-put_output c = let h = c.from_residual-in_err-put_output.ensures.0 in record { words = IfOk-from_err _ _ h; bytes = IfOk-from_err _ _ h }
