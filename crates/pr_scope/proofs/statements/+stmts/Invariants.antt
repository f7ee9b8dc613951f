use Rattle.std.proofs.Common.{◌≡◌, ◌≤◌, ◌-◌, drop, map}
use Rattle.pr_scope_names.specs.Names.{KeepsNames, horizon_in, known_in, streams_in}
use Rattle.pr_scope.specs.Statements.{change_of, changes_of, turn, turns}
use Rattle.pr_scope.proofs.statements.+stmts.Given as goal

abbrev pub invariant-walk_turns-loop-at : goal.invariant-walk_turns-loop-at
invariant-walk_turns-loop-at l = record {
  same : known_in l.statics ≡ known_in l.fn.statics;
  names : KeepsNames l.fn.statics l.statics;
  horizon : horizon_in l.statics ≡ horizon_in l.fn.statics;
  rest : turns (l.at-end - l.at) l.at (turn l.all.index.now (map change_of l.body) (known_in l.fn.statics) l.all.inside) (record { streams = streams_in l.streams; count = l.count })
      ≡ turns (l.all.span.high - l.all.span.low) l.all.span.low (turn l.all.index.now (map change_of l.body) (known_in l.fn.statics) l.all.inside) (record { streams = streams_in l.fn.streams; count = l.all.span.count });
  grows : l.all.span.count.turns ≤ l.count.turns;
}

abbrev pub invariant-walk_stmts-loop-stmt : goal.invariant-walk_stmts-loop-stmt
invariant-walk_stmts-loop-stmt l = record {
  same : known_in l.statics ≡ known_in l.fn.statics;
  names : KeepsNames l.fn.statics l.statics;
  horizon : horizon_in l.statics ≡ horizon_in l.fn.statics;
  rest : changes_of (drop l.stmt-index l.stmts) (known_in l.fn.statics) l.inside (record { streams = streams_in l.streams; count = l.count })
      ≡ changes_of l.stmts (known_in l.fn.statics) l.inside (record { streams = streams_in l.fn.streams; count = l.fn.count });
  grows : l.fn.count.turns ≤ l.count.turns;
}
