use Rattle.std.proofs.Common.{◌≡◌, map, take}
use Rattle.pr_lens_rtl_names.specs.Names.{names_in, port_name}
use Rattle.pr_lens_rtl_names.proofs.names.port_names.Given as goal

abbrev pub invariant-loop-item : goal.invariant-loop-item
invariant-loop-item l = l.names.items ≡ map port_name (names_in l.side (take l.item-index l.items))
