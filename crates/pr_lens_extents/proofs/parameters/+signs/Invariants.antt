use Rattle.std.proofs.Common.{◌≡◌, map, drop}
use Rattle.pr_lens_extents.specs.Scenes.{seen_in}
use Rattle.pr_lens_extents.specs.Parameters.{any_signs, use_of}
use Rattle.pr_lens_extents.proofs.parameters.+signs.Given as goal

abbrev pub invariant-any_signs-loop-part : goal.invariant-any_signs-loop-part
invariant-any_signs-loop-part l =
    any_signs (map use_of (drop l.part-index l.parts)) l.name (seen_in l.scene) ≡ any_signs (map use_of l.parts) l.name (seen_in l.scene)
