use Rattle.std.proofs.Common.{◌≡◌, map, vec_len}
use Rattle.pr_lang.specs.Shape.{expr_shape}
use Rattle.pr_lens_items.specs.Cuts.{all_onto, all_of}
use Rattle.pr_lens_items.proofs.cut_expressions.all_of.Given as goal

abbrev pub invariant-loop-part : goal.invariant-loop-part
invariant-loop-part l = all_onto (map expr_shape l.parts.items) (expr_shape l.all.value) ≡ all_of (map expr_shape l.fn.parts.items)

abbrev pub decreases-loop-part : goal.decreases-loop-part
decreases-loop-part l = vec_len l.parts
