use Rattle.std.proofs.Common.{◌≡◌, ◌-◌, ◌+◌, ◌*◌, drop, map, option_map, vec_len}
use Rattle.std.specs.List.{All}
use Rattle.pr_scope_names.specs.Names.{KeepsNames}
use Rattle.pr_expand_spec.specs.Expressions.{all_made, plan_of}
use Rattle.pr_expand_spec.specs.Statements.{changes_of, turns, with_index}
use Rattle.pr_expand.specs.Code.{made_of, progress_of, shapes_in, streams_in}
use Rattle.pr_expand.specs.Descents.{making}
use Rattle.pr_expand.specs.Scopes.{visible_in}
use Rattle.pr_expand.proofs.Layers.{with_given}
use Rattle.pr_expand.proofs.Ways.{IsLight, rests_of}
use Rattle.pr_expand.proofs.Weights.{item_weight, stmt_weight, stmts_weight, weight, weight_in, weights}
use Rattle.pr_expand.proofs.expressions.+make.Given as goal

abbrev pub invariant-make-loop-outer : goal.invariant-make-loop-outer
invariant-make-loop-outer l = record {
  names : KeepsNames l.fn.statics l.statics;
  rest : rests_of (map (λ e. e.now) l.around.items) (visible_in l.items l.fn.statics) (streams_in l.env) (made_of l.made)
      ≡ making l.expr (visible_in l.items l.fn.statics) (streams_in l.env) (shapes_in l.fn.ledger);
  light : All (IsLight (weight l.expr)) (map (λ e. e.now) l.around.items);
}

abbrev pub decreases-make-loop-outer : goal.decreases-make-loop-outer
decreases-make-loop-outer l = vec_len l.around

abbrev pub invariant-make_all-loop-expr : goal.invariant-make_all-loop-expr
invariant-make_all-loop-expr l = record {
  names : KeepsNames l.fn.statics l.statics;
  rest : with_given l.given.items (all_made (map plan_of (drop l.expr-index l.exprs)) (visible_in l.items l.fn.statics) (streams_in l.env) (shapes_in l.ledger))
      ≡ all_made (map plan_of l.exprs) (visible_in l.items l.fn.statics) (streams_in l.env) (shapes_in l.fn.ledger);
}

abbrev pub invariant-make_stmts-loop-stmt : goal.invariant-make_stmts-loop-stmt
invariant-make_stmts-loop-stmt l = record {
  names : KeepsNames l.fn.statics l.statics;
  rest : changes_of (drop l.stmt-index l.stmts) (visible_in l.items l.fn.statics) (progress_of l.at) ≡ changes_of l.stmts (visible_in l.items l.fn.statics) (progress_of l.fn.begun);
}

abbrev pub invariant-make_turns-loop-at : goal.invariant-make_turns-loop-at
invariant-make_turns-loop-at l = record {
  names : KeepsNames l.fn.statics l.statics;
  rest : turns (l.span.to - l.at) l.at (λ at. changes_of l.body (with_index l.span.index.now at (visible_in l.items l.fn.statics))) (progress_of l.now)
      ≡ turns (l.span.to - l.span.from) l.span.from (λ at. changes_of l.body (with_index l.span.index.now at (visible_in l.items l.fn.statics))) (progress_of l.fn.begun);
}

abbrev pub decreases-make : goal.decreases-make
decreases-make l = 16 * (weight_in l.items.now l.statics.now + weight l.expr.now) + 1

abbrev pub decreases-make_innermost : goal.decreases-make_innermost
decreases-make_innermost l = 16 * (weight_in l.items.now l.statics.now + weight l.expr.now)

abbrev pub decreases-make_rest : goal.decreases-make_rest
decreases-make_rest l = 16 * (weight_in l.items.now l.statics.now + weight l.expr.now)

abbrev pub decreases-make_all : goal.decreases-make_all
decreases-make_all l = 16 * (weight_in l.items.now l.statics.now + weights l.exprs.now) + 2

abbrev pub decreases-make_assigned : goal.decreases-make_assigned
decreases-make_assigned l = 16 * (weight_in l.items.now l.statics.now + weight l.value.now.expr.now) + 2

abbrev pub decreases-make_body : goal.decreases-make_body
decreases-make_body l = 16 * (weight_in l.items.now l.statics.now + weight l.body.now.expr.now) + 2

abbrev pub decreases-settle : goal.decreases-settle
decreases-settle l = 16 * (weight_in l.items.now l.statics.now + weight l.counted.now.body.expr.now) + 3

abbrev pub decreases-make_let : goal.decreases-make_let
decreases-make_let l = 16 * (weight_in l.items.now l.statics.now + weight l.value.now.expr.now) + 3

abbrev pub decreases-make_rec : goal.decreases-make_rec
decreases-make_rec l = 16 * (weight_in l.items.now l.statics.now + weight l.stmt.now.body.expr.now) + 4

abbrev pub decreases-make_stmt : goal.decreases-make_stmt
decreases-make_stmt l = 16 * (weight_in l.items.now l.statics.now + stmt_weight l.stmt.now) + 4

abbrev pub decreases-make_stmts : goal.decreases-make_stmts
decreases-make_stmts l = 16 * (weight_in l.items.now l.statics.now + stmts_weight l.stmts.now) + 5

abbrev pub decreases-make_turn : goal.decreases-make_turn
decreases-make_turn l = 16 * (weight_in l.items.now l.statics.now + stmts_weight l.body.now) + 6

abbrev pub decreases-make_turns : goal.decreases-make_turns
decreases-make_turns l = 16 * (weight_in l.items.now l.statics.now + stmts_weight l.body.now) + 7

abbrev pub decreases-run : goal.decreases-run
decreases-run l = 16 * (weight_in l.items.now l.statics.now + (stmts_weight l.body.now + weight l.last.now.expr.now)) + 6

abbrev pub decreases-call_item : goal.decreases-call_item
decreases-call_item l = 16 * (weight_in l.items.now l.statics.now + item_weight (option_map (λ i. i.now) l.item)) + 7

abbrev pub decreases-call : goal.decreases-call
decreases-call l = 16 * (weight_in l.items.now l.statics.now + 0) + 8
