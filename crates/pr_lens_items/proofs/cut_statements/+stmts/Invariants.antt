use Rattle.std.proofs.Common.{◌≡◌, ◌-◌, ◌<◌, ◌++◌, map, drop}
use Rattle.pr_lang.specs.Shape.{stmt_shape}
use Rattle.pr_lens_items.specs.Cuts.{stmts_left, frames_of, values_of, statement}
use Rattle.pr_lens_items.proofs.cut_statements.+stmts.Given as goal

abbrev pub invariant-stmts-loop-step : goal.invariant-stmts-loop-step
invariant-stmts-loop-step l = record {
  tree : map stmt_shape l.kept.items ++ stmts_left (map statement (drop l.step-index l.steps)) l.rest.values.from l.rest.frames.from l.rest.last ≡ stmts_left (map statement l.steps) l.fn.rest.values.from l.fn.rest.frames.from l.fn.rest.last;
  frames : l.rest.frames.from - frames_of (map statement (drop l.step-index l.steps)) ≡ l.fn.rest.frames.from - frames_of (map statement l.steps);
  values : 0 < l.rest.frames.from - frames_of (map statement (drop l.step-index l.steps)) → l.rest.values.from - values_of (map statement (drop l.step-index l.steps)) ≡ l.fn.rest.values.from - values_of (map statement l.steps);
  last : l.rest.last ≡ l.fn.rest.last;
}
