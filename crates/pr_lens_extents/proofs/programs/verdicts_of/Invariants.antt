use Rattle.std.proofs.Common.{◌≡◌, ◌++◌, drop}
use Rattle.pr_lens_extents.specs.Scenes.{nothing_seen, seen_in}
use Rattle.pr_lens_extents.specs.Programs.{items_outcome}
use Rattle.pr_lens_extents.proofs.programs.verdicts_of.Given as goal

abbrev pub invariant-loop-item : goal.invariant-loop-item
invariant-loop-item l =
    l.verdicts.items ++ (items_outcome (drop l.item-index l.program.items.items) (seen_in l.scene)).verdicts ≡ (items_outcome l.program.items.items nothing_seen).verdicts
