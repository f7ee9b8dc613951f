use Rattle.std.proofs.Common.{◌≡◌, ◌≤◌, drop, map}
use Rattle.pr_scope_names.specs.Names.{known_in, streams_in}
use Rattle.pr_scope.specs.Expressions.{reading, walks_of}
use Rattle.pr_scope.proofs.expressions.+walk.Given as goal

abbrev pub invariant-walk_all-loop-part : goal.invariant-walk_all-loop-part
invariant-walk_all-loop-part l = record {
  rest : walks_of (map reading (drop l.part-index l.parts)) (known_in l.statics) (streams_in l.streams) l.scene l.count
      ≡ walks_of (map reading l.parts) (known_in l.statics) (streams_in l.streams) l.scene l.fn.count;
  grows : l.fn.count.turns ≤ l.count.turns;
}
