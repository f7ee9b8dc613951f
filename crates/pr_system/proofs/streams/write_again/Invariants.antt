use Rattle.std.specs.Io.KnownBytes as known
use Rattle.pr_system.proofs.streams.write_again.Given as goal

abbrev pub invariant-loop : goal.invariant-loop
invariant-loop g l = known.Keeps (g.W.Write.contents l.initial.inner) (g.W.Write.contents l.inner)
