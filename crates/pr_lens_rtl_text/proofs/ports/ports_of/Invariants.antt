use Rattle.std.proofs.Common.{◌≡◌, ◌++◌, drop}
use Rattle.pr_lens_rtl_text.specs.Ports.{zipped}
use Rattle.pr_lens_rtl_text.proofs.ports.ports_of.Given as goal

abbrev pub invariant-loop-i : goal.invariant-loop-i
invariant-loop-i l = l.ports.items ++ zipped (drop l.i l.names) (drop l.i l.widths) ≡ zipped l.names l.widths
