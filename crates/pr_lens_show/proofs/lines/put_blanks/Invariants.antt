use Rattle.std.proofs.Common.{◌≡◌, ◌++◌, map, take}
use Rattle.pr_lens_show.specs.Lines.{blank_for}
use Rattle.pr_lens_show.proofs.lines.put_blanks.Given as goal

abbrev pub invariant-loop-byte : goal.invariant-loop-byte
invariant-loop-byte l = l.told.items ≡ l.fn.told.items ++ map blank_for (take l.byte-index l.bytes)
