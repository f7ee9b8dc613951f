use Rattle.std.proofs.Common.{◌≡◌, ◌++◌, drop}
use Rattle.pr_lens_origins.specs.Origins.{streams_from}
use Rattle.pr_lens_origins.proofs.streams.streams_of.Given as goal

abbrev pub invariant-loop-place : goal.invariant-loop-place
invariant-loop-place l = l.streams.items ++ streams_from l.place (drop l.place l.instances) l.spots ≡ streams_from 0 l.instances l.spots
