use Rattle.std.proofs.Common.{◌≡◌, map, take}
use Rattle.pr_conf.specs.declared.outputs.Output.{Output}
use Rattle.pr_lens_rtl_text.proofs.whole.widths_of.Given as goal

abbrev pub invariant-loop-output : goal.invariant-loop-output
invariant-loop-output l = l.widths.items ≡ map (λ (o : Output). o.width) (take l.output-index l.outputs)
