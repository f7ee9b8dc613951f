use Rattle.std.proofs.Common.{◌≡◌, ◌++◌, drop}
use Rattle.pr_lens_why.specs.Widths.{extents_text}
use Rattle.pr_lens_why.proofs.widths.put_extents.Given as goal

abbrev pub invariant-loop-number : goal.invariant-loop-number
invariant-loop-number l = l.message.items ++ extents_text l.number (drop l.number l.widths) ≡ l.fn.message.items ++ extents_text 0 l.widths
