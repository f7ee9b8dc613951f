use Rattle.std.proofs.Common.{◌≡◌, ◌∷◌, ◌++◌, map, drop}
use Rattle.std.specs.List.{list_all}
use Rattle.pr_code.specs.Spelling.{bytes_of_words, tap_word, has_tap_byte}
use Rattle.pr_code.proofs.encoding.put_output.Given as goal

abbrev pub invariant-loop-tap : goal.invariant-loop-tap
invariant-loop-tap l = record {
  words : l.out.items ++ bytes_of_words (map tap_word (drop l.tap-index l.tap-items)) ≡ l.fn.out.items ++ bytes_of_words (l.output.width ∷ map tap_word l.tap-items);
  bytes : list_all has_tap_byte l.tap-items ≡ list_all has_tap_byte (drop l.tap-index l.tap-items);
}
