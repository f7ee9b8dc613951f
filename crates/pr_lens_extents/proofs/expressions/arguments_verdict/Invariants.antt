use Rattle.std.proofs.Common.{◌≡◌, map, drop}
use Rattle.pr_lens_extents.specs.Scenes.{seen_in}
use Rattle.pr_lens_extents.specs.Expressions.{arguments_verdict, reading_of}
use Rattle.pr_lens_extents.proofs.expressions.arguments_verdict.Given as goal

abbrev pub invariant-loop-at : goal.invariant-loop-at
invariant-loop-at l =
    arguments_verdict l.function l.at (map reading_of (drop l.at l.args)) (seen_in l.scene)
    ≡ arguments_verdict l.function 0 (map reading_of l.args) (seen_in l.scene)
