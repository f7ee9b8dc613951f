use Rattle.std.proofs.Common.{◌≡◌, true, take}
use Rattle.std.specs.List.{list_all}
use Rattle.pr_conf.specs.declared.outputs.Output.{Output}
use Rattle.pr_code.specs.Spelling.{has_tap_byte}
use Rattle.pr_lens_rtl_text.proofs.bytes.see_outputs.Given as goal

abbrev pub invariant-loop-output : goal.invariant-loop-output
invariant-loop-output l = list_all (λ (o : Output). list_all has_tap_byte o.taps.items) (take l.output-index l.outputs) ≡ true
