use Rattle.std.proofs.Common.{◌≡◌, ◌++◌, drop}
use Rattle.pr_lens_rtl.specs.Module.{state_registers}
use Rattle.pr_lens_rtl_terms.specs.Terms.{assigns_of}
use Rattle.pr_lens_rtl_terms.proofs.stages.add_states.Given as goal

abbrev pub invariant-loop-col : goal.invariant-loop-col
invariant-loop-col l = assigns_of l.lines.items ++ state_registers l.stage l.col (drop l.col l.pes) ≡ assigns_of l.fn.lines.items ++ state_registers l.stage 0 l.pes
