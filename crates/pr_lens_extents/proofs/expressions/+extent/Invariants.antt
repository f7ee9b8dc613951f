use Rattle.std.proofs.Common.{◌≡◌, map, drop, Some}
use Rattle.pr_lens_reach.specs.Extents.{no_parts}
use Rattle.pr_lens_extents.specs.Scenes.{seen_in}
use Rattle.pr_lens_extents.specs.Expressions.{parts_beside, reading_of}
use Rattle.pr_lens_extents.proofs.expressions.+extent.Given as goal

abbrev pub invariant-concatenated-loop-part : goal.invariant-concatenated-loop-part
invariant-concatenated-loop-part l =
    parts_beside l.above (map reading_of (drop l.part-index l.parts)) (seen_in l.scene) ≡ parts_beside (Some no_parts) (map reading_of l.parts) (seen_in l.scene)
