use Rattle.std.proofs.Common.{◌≡◌, ◌+◌, drop}
use Rattle.std.specs.List.{prefix_len}
use Rattle.pr_parse_lex.specs.Bytes.{passes}
use Rattle.pr_parse_lex.proofs.numbers.run_of.Given as goal

abbrev pub invariant-loop-i : goal.invariant-loop-i
invariant-loop-i l = l.i + prefix_len (passes l.class) (drop l.i l.text) ≡ prefix_len (passes l.class) l.text
