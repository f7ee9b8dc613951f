use Rattle.std.proofs.Common.{◌≡◌, ◌++◌, drop}
use Rattle.std.specs.List.{flat_map}
use Rattle.pr_lens_why.specs.Syntax.{is_first_behind, joined, word_piece}
use Rattle.pr_lens_why.proofs.syntax.put_words.Given as goal

abbrev pub invariant-loop-keyword : goal.invariant-loop-keyword
invariant-loop-keyword l = record {
  text : l.message.items ++ joined l.first (flat_map (word_piece l.number) (drop l.keyword-index l.keywords)) ≡ l.fn.message.items ++ joined l.fn.first (flat_map (word_piece l.number) l.keywords);
  pieces : is_first_behind l.first (flat_map (word_piece l.number) (drop l.keyword-index l.keywords)) ≡ is_first_behind l.fn.first (flat_map (word_piece l.number) l.keywords);
}
