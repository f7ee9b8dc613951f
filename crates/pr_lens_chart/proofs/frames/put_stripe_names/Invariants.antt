use Rattle.std.proofs.Common.{◌≡◌, ◌++◌}
use Rattle.pr_lens_chart.specs.Pictures.{stripe_names}
use Rattle.pr_lens_chart.proofs.frames.put_stripe_names.Given as goal

abbrev pub invariant-loop-stripe : goal.invariant-loop-stripe
invariant-loop-stripe l = l.text.items ≡ l.fn.text.items ++ stripe_names l.stripe
