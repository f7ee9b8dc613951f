use Rattle.std.proofs.Common.{◌≡◌, ◌++◌, drop}
use Rattle.pr_lens_extents.specs.Statements.{all_blank, steps_of}
use Rattle.pr_lens_extents.proofs.statements.+blank.Given as goal

abbrev pub invariant-put_blanks-loop-stmt : goal.invariant-put_blanks-loop-stmt
invariant-put_blanks-loop-stmt l =
    l.verdicts.items ++ all_blank (steps_of (drop l.stmt-index l.stmts)) ≡ l.fn.verdicts.items ++ all_blank (steps_of l.stmts)
