use Rattle.std.proofs.Common.{◌≡◌, ◌∷◌, ◌++◌, length, drop}
use Rattle.pr_code.specs.Spelling.{bytes_of_words}
use Rattle.pr_code.proofs.encoding.put_inputs.Given as goal

abbrev pub invariant-loop-width : goal.invariant-loop-width
invariant-loop-width l = l.out.items ++ bytes_of_words (drop l.width-index l.widths) ≡ l.fn.out.items ++ bytes_of_words (length l.widths ∷ l.widths)
