use Rattle.std.proofs.Common.{◌≡◌, ◌≤◌, length, take}
use Rattle.pr_lens_rtl_names.specs.Names.{stem}
use Rattle.pr_lens_rtl_names.proofs.names.stem.Given as goal

abbrev pub invariant-loop-end : goal.invariant-loop-end
invariant-loop-end l = record {
  within : l.end ≤ length l.name;
  same : stem (take l.end l.name) ≡ stem l.name;
}

abbrev pub decreases-loop-end : goal.decreases-loop-end
decreases-loop-end l = l.end
