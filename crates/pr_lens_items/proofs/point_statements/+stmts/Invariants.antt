use Rattle.std.proofs.Common.{◌≡◌, map, drop}
use Rattle.pr_lens_items.specs.Steps.{entries_of, all_values, all_frames, all_end, stmt_steps}
use Rattle.pr_lens_items.proofs.point_statements.+stmts.Given as goal

abbrev pub invariant-stmts-loop-part : goal.invariant-stmts-loop-part
invariant-stmts-loop-part l = record {
  values : all_values (map stmt_steps (drop l.part-index l.body)) l.end l.points.values.items ≡ all_values (map stmt_steps l.body) l.fn.at l.fn.points.values.items;
  frames : all_frames (map stmt_steps (drop l.part-index l.body)) l.end (entries_of l.points.frames.items) ≡ all_frames (map stmt_steps l.body) l.fn.at (entries_of l.fn.points.frames.items);
  end_is : all_end (map stmt_steps (drop l.part-index l.body)) l.end ≡ all_end (map stmt_steps l.body) l.fn.at;
}
