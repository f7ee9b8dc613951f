use Rattle.std.proofs.Common.{◌≡◌, ◌++◌, replicate}
use Rattle.pr_lens_text.proofs.pieces.put_many.Given as goal

abbrev pub invariant-loop : goal.invariant-loop
invariant-loop l = l.text.items ≡ l.fn.text.items ++ replicate l.counter l.byte
