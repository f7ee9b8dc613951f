use Rattle.std.proofs.Common.{◌≡◌, ◌-◌, ◌++◌, map, drop}
use Rattle.pr_lang.specs.Shape.{expr_shape}
use Rattle.pr_lens_items.specs.Cuts.{all_points, parts_left, expr_part}
use Rattle.pr_lens_items.proofs.cut_expressions.+expr.Given as goal

abbrev pub invariant-exprs-loop-part : goal.invariant-exprs-loop-part
invariant-exprs-loop-part l = record {
  tree : map expr_shape l.kept.items ++ parts_left (map expr_part (drop l.part-index l.parts)) l.left.from ≡ parts_left (map expr_part l.parts) l.fn.left.from;
  from : l.left.from - all_points (map expr_part (drop l.part-index l.parts)) ≡ l.fn.left.from - all_points (map expr_part l.parts);
}
