use Rattle.std.proofs.Common.{◌≡◌, ◌≤◌, ◌++◌, ◌+◌, drop, length}
use Rattle.std.specs.List.{flat_map}
use Rattle.pr_lens_rtl.specs.Module.{tap_wires}
use Rattle.pr_lens_rtl_terms.specs.Terms.{assigns_of, output_taps}
use Rattle.pr_lens_rtl_terms.proofs.edges.add_outputs.Given as goal

abbrev pub invariant-loop-i : goal.invariant-loop-i
invariant-loop-i l = record {
  made : assigns_of l.lines.items ++ tap_wires l.columns l.last l.place (flat_map output_taps (drop l.i l.outputs)) ≡ assigns_of l.fn.lines.items ++ tap_wires l.columns l.last 0 (flat_map output_taps l.outputs);
  left : l.place + length (flat_map output_taps (drop l.i l.outputs)) ≤ length (flat_map output_taps l.outputs);
}
