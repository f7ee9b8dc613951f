use Rattle.std.proofs.Common.{◌≡◌, map, drop}
use Rattle.pr_lens_extents.specs.Scenes.{seen_in}
use Rattle.pr_lens_extents.specs.Parameters.{passes, use_of}
use Rattle.pr_lens_extents.proofs.parameters.passes.Given as goal

abbrev pub invariant-loop-at : goal.invariant-loop-at
invariant-loop-at l =
    passes l.function l.at (map use_of (drop l.at l.args)) l.name (seen_in l.scene) ≡ passes l.function 0 (map use_of l.args) l.name (seen_in l.scene)
