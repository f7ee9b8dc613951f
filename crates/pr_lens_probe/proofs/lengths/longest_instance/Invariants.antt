use Rattle.std.proofs.Common.{◌≤◌, ℕ, drop}
use Rattle.pr_probe.specs.Probes.{AreNamed}
use Rattle.pr_lens_probe.specs.Fresh.{is_within}
use Rattle.pr_lens_probe.proofs.lengths.longest_instance.Given as goal

abbrev pub invariant-loop-instance : goal.invariant-loop-instance
invariant-loop-instance l = (most : ℕ) → l.longest ≤ most → AreNamed (is_within most) (drop l.instance-index l.instances) → AreNamed (is_within most) l.instances
