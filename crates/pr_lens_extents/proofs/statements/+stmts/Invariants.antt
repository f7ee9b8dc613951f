use Rattle.std.proofs.Common.{◌≡◌, ◌-◌, ◌++◌, drop}
use Rattle.pr_lens_extents.specs.Scenes.{seen_in}
use Rattle.pr_lens_extents.specs.Statements.{in_turn, steps_of, turn, turns}
use Rattle.pr_lens_extents.proofs.statements.+stmts.Given as goal

abbrev pub invariant-put_stmts-loop-stmt : goal.invariant-put_stmts-loop-stmt
invariant-put_stmts-loop-stmt l = record {
  verdicts : l.verdicts.items ++ (in_turn (steps_of (drop l.stmt-index l.stmts)) (seen_in l.scene)).verdicts ≡ l.fn.verdicts.items ++ (in_turn (steps_of l.stmts) (seen_in l.fn.scene)).verdicts;
  seen_is : (in_turn (steps_of (drop l.stmt-index l.stmts)) (seen_in l.scene)).seen ≡ (in_turn (steps_of l.stmts) (seen_in l.fn.scene)).seen;
}

abbrev pub invariant-put_turns-loop-at : goal.invariant-put_turns-loop-at
invariant-put_turns-loop-at l =
    turns (l.span.to - l.at) l.at (turn l.span.index.now (steps_of l.body)) (record { verdicts = l.all.items; seen = seen_in l.scene })
    ≡ turns (l.span.to - l.span.from) l.span.from (turn l.span.index.now (steps_of l.body)) (record { verdicts = l.fn.all.items; seen = seen_in l.fn.scene })
