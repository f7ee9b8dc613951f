use Rattle.std.proofs.Common.{◌≡◌, ◌++◌}
use Rattle.pr_lens_rtl.specs.Module.{row_registers}
use Rattle.pr_lens_rtl_terms.specs.Terms.{assigns_of}
use Rattle.pr_lens_rtl_terms.proofs.stages.add_rows.Given as goal

abbrev pub invariant-loop-before : goal.invariant-loop-before
invariant-loop-before l = assigns_of l.lines.items ≡ assigns_of l.fn.lines.items ++ row_registers l.columns l.stage l.before l.pes
