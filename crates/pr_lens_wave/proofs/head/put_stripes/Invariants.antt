use Rattle.std.proofs.Common.{◌≡◌, ◌++◌}
use Rattle.pr_lens_wave.specs.Waves.{stripes_text}
use Rattle.pr_lens_wave.proofs.head.put_stripes.Given as goal

abbrev pub invariant-loop-stripe : goal.invariant-loop-stripe
invariant-loop-stripe l = l.text.items ≡ l.fn.text.items ++ stripes_text l.stripe
