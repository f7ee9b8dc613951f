use Rattle.std.proofs.Common.{◌≡◌, ◌++◌, map, drop}
use Rattle.std.specs.Prelude.{option_map}
use Rattle.pr_lens_extents.specs.Scenes.{seen_in}
use Rattle.pr_lens_extents.specs.Expressions.{all_verdicts, reading_of}
use Rattle.pr_lens_extents.proofs.expressions.+verdicts.Given as goal

abbrev pub invariant-put_all-loop-part : goal.invariant-put_all-loop-part
invariant-put_all-loop-part l =
    l.verdicts.items ++ all_verdicts (map reading_of (drop l.part-index l.parts)) (option_map (λ s. seen_in s.now) l.scene)
    ≡ l.fn.verdicts.items ++ all_verdicts (map reading_of l.parts) (option_map (λ s. seen_in s.now) l.scene)
