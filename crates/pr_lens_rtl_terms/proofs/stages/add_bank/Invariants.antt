use Rattle.std.proofs.Common.{◌≡◌, ◌++◌, ◌+◌, drop}
use Rattle.pr_lens_rtl.specs.Module.{passed_registers}
use Rattle.pr_lens_rtl_terms.specs.Terms.{assigns_of}
use Rattle.pr_lens_rtl_terms.proofs.stages.add_bank.Given as goal

abbrev pub invariant-loop-col : goal.invariant-loop-col
invariant-loop-col l = assigns_of l.lines.items ++ passed_registers l.stage l.reg l.col (l.place + l.col) (drop l.col l.pes) ≡ assigns_of l.fn.lines.items ++ passed_registers l.stage l.reg 0 (l.place + 0) l.pes
