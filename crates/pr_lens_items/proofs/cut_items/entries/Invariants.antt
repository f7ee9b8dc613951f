use Rattle.std.proofs.Common.{◌≡◌, ◌++◌, map, drop}
use Rattle.pr_lang.specs.Shape.{fixed_shape}
use Rattle.pr_lens_items.specs.Cuts.{entries_left, fixed_part}
use Rattle.pr_lens_items.proofs.cut_items.entries.Given as goal

abbrev pub invariant-loop-value : goal.invariant-loop-value
invariant-loop-value l = map fixed_shape l.kept.items ++ entries_left (map fixed_part (drop l.value-index l.values)) l.left.from ≡ entries_left (map fixed_part l.values) l.fn.left.from
