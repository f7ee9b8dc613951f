use Rattle.std.proofs.Common.{◌≡◌, ◌++◌, ◌+◌, drop}
use Rattle.pr_lens_rtl.specs.Module.{tap_wires}
use Rattle.pr_lens_rtl_terms.specs.Terms.{assigns_of}
use Rattle.pr_lens_rtl_terms.proofs.edges.add_output.Given as goal

abbrev pub invariant-loop-i : goal.invariant-loop-i
invariant-loop-i l = assigns_of l.lines.items ++ tap_wires l.columns l.last (l.place + l.i) (drop l.i l.taps) ≡ assigns_of l.fn.lines.items ++ tap_wires l.columns l.last (l.place + 0) l.taps
