use Rattle.std.proofs.Common.{◌≡◌, ◌∷◌, ◌++◌, length, map, drop}
use Rattle.std.specs.List.{flat_map, list_all}
use Rattle.pr_conf.specs.Shape.{output_shape}
use Rattle.pr_code.specs.Spelling.{bytes_of_words, output_words, have_tap_bytes}
use Rattle.pr_code.proofs.encoding.put_outputs.Given as goal

abbrev pub invariant-loop-output : goal.invariant-loop-output
invariant-loop-output l = record {
  words : l.out.items ++ bytes_of_words (flat_map output_words (map output_shape (drop l.output-index l.outputs))) ≡ l.fn.out.items ++ bytes_of_words (length l.outputs ∷ flat_map output_words (map output_shape l.outputs));
  bytes : list_all have_tap_bytes (map output_shape l.outputs) ≡ list_all have_tap_bytes (map output_shape (drop l.output-index l.outputs));
}
