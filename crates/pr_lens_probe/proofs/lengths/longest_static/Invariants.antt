use Rattle.std.proofs.Common.{◌≤◌, ℕ, drop}
use Rattle.pr_probe.specs.Probes.{HaveNames}
use Rattle.pr_lens_probe.specs.Fresh.{is_within}
use Rattle.pr_lens_probe.proofs.lengths.longest_static.Given as goal

abbrev pub invariant-loop-item : goal.invariant-loop-item
invariant-loop-item l = record {
  signed : 6 ≤ l.longest;
  rest : (most : ℕ) → l.longest ≤ most → HaveNames (is_within most) (drop l.item-index l.items) → HaveNames (is_within most) l.items;
}
