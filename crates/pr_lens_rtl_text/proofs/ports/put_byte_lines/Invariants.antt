use Rattle.std.proofs.Common.{◌≡◌, ◌++◌}
use Rattle.pr_lens_rtl_text.specs.Ports.{byte_lines}
use Rattle.pr_lens_rtl_text.proofs.ports.put_byte_lines.Given as goal

abbrev pub invariant-loop-place : goal.invariant-loop-place
invariant-loop-place l = l.text.items ≡ l.fn.text.items ++ byte_lines l.side l.port l.first l.place
