use Rattle.std.proofs.Common.{◌≡◌, Some, replicate}
use Rattle.pr_lens_wave.proofs.changes.screen_of.Given as goal

abbrev pub invariant-loop : goal.invariant-loop
invariant-loop l = l.values.items ≡ replicate l.counter (Some 18446744073709551615)
