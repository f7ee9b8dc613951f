use Rattle.std.proofs.Common.{◌≡◌, drop}
use Rattle.pr_lens_extents.specs.Scenes.{seen_in}
use Rattle.pr_lens_extents.specs.Programs.{with_entries}
use Rattle.pr_lens_extents.proofs.programs.set_entries.Given as goal

abbrev pub invariant-loop-at : goal.invariant-loop-at
invariant-loop-at l = with_entries l.name l.at (drop l.at l.values) (seen_in l.scene) ≡ with_entries l.name 0 l.values (seen_in l.initial.scene)
