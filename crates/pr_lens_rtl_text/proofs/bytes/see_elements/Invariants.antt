use Rattle.std.proofs.Common.{◌≡◌, true, take}
use Rattle.std.specs.List.{list_all}
use Rattle.pr_code.specs.Spelling.{has_pe_bytes}
use Rattle.pr_lens_rtl_text.proofs.bytes.see_elements.Given as goal

abbrev pub invariant-loop-pe : goal.invariant-loop-pe
invariant-loop-pe l = list_all has_pe_bytes (take l.pe-index l.pes) ≡ true
