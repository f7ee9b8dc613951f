use Rattle.std.proofs.Common.{◌≡◌, ◌++◌, drop}
use Rattle.pr_code.specs.Spelling.{bytes_of_words}
use Rattle.pr_code.proofs.words.put_words.Given as goal

abbrev pub invariant-loop-word : goal.invariant-loop-word
invariant-loop-word l = l.out.items ++ bytes_of_words (drop l.word-index l.words) ≡ l.fn.out.items ++ bytes_of_words l.words
