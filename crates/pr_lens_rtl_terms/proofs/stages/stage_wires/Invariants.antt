use Rattle.std.proofs.Common.{◌≡◌, ◌++◌, drop}
use Rattle.pr_lens_rtl.specs.Module.{pes_wires}
use Rattle.pr_lens_rtl_terms.specs.Terms.{assigns_of}
use Rattle.pr_lens_rtl_terms.proofs.stages.stage_wires.Given as goal

abbrev pub invariant-loop-col : goal.invariant-loop-col
invariant-loop-col l = assigns_of l.lines.items ++ pes_wires l.columns l.stage l.col (drop l.col l.pes) ≡ pes_wires l.columns l.stage 0 l.pes
