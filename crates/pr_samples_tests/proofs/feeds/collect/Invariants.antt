use Rattle.std.proofs.Common.{◌≡◌, length}
use Rattle.pr_samples.specs.Feed.{widths_of}
use Rattle.pr_samples_tests.proofs.feeds.collect.Given as goal

abbrev pub invariant-loop : goal.invariant-loop
invariant-loop g l = length (widths_of l.feed) ≡ 2
