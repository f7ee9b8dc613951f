use Rattle.std.proofs.Common.{◌≡◌, ◌≤◌, ◌*◌, ◌++◌, drop}
use Rattle.pr_lens_rtl_text.specs.Ports.{side_lines}
use Rattle.pr_lens_rtl_text.proofs.ports.put_side_lines.Given as goal

abbrev pub invariant-loop-i : goal.invariant-loop-i
invariant-loop-i l = record {
  room : l.first ≤ 32 * l.i;
  printed : l.text.items ++ side_lines l.side l.first (drop l.i l.ports) ≡ l.fn.text.items ++ side_lines l.side 0 l.ports;
}
