use Rattle.std.proofs.Common.{◌≡◌, map, drop}
use Rattle.pr_lens_items.specs.Walks.{parts_points, parts_end, expr_walk}
use Rattle.pr_lens_items.proofs.point_expressions.+expr.Given as goal

abbrev pub invariant-exprs-loop-part : goal.invariant-exprs-loop-part
invariant-exprs-loop-part l = record {
  points : parts_points (map expr_walk (drop l.part-index l.parts)) l.end l.points.items ≡ parts_points (map expr_walk l.parts) l.fn.at l.fn.points.items;
  end_is : parts_end (map expr_walk (drop l.part-index l.parts)) l.end ≡ parts_end (map expr_walk l.parts) l.fn.at;
}
