use Rattle.std.proofs.Common.{◌-◌, ◌≤◌, ◌<◌}
use Rattle.pr_lens_find.proofs.halves.turn.Given as goal

abbrev pub invariant-halves : goal.invariant-halves
invariant-halves g l = record {
  order : l.below < l.above;
  from : l.low ≤ l.below;
  to : l.above ≤ l.high;
  no : g.Q.Question.no l.question l.below;
  yes : g.Q.Question.yes l.question l.above;
}

abbrev pub decreases-halves : goal.decreases-halves
decreases-halves g l = l.above - l.below
