use Rattle.std.proofs.Common.{◌≡◌, ◌++◌, take}
use Rattle.pr_lens_rtl_text.specs.Ports.{ports_text}
use Rattle.pr_lens_rtl_text.proofs.ports.put_ports.Given as goal

abbrev pub invariant-loop-port : goal.invariant-loop-port
invariant-loop-port l = l.text.items ≡ l.fn.text.items ++ ports_text l.side (take l.port-index l.ports)
