use Rattle.std.proofs.Common.{◌≡◌, ◌++◌, ◌+◌, ◌*◌, ◌-◌, drop, map}
use Rattle.pr_scope_names.specs.declared.names.Static.TheVariants.{Index}
use Rattle.pr_scope_names.specs.Names.{KeepsNames, bind, known_in}
use Rattle.pr_probe.proofs.ListWeights.{stmt_weight, stmts_weight}
use Rattle.pr_lens_origins.specs.Numbers.{in_turn, naming_of, turns}
use Rattle.pr_lens_origins.proofs.walks.+number.Given as goal

abbrev pub invariant-number_stmts-loop-stmt : goal.invariant-number_stmts-loop-stmt
invariant-number_stmts-loop-stmt l = record {
  names : KeepsNames l.fn.statics l.statics;
  rest : l.listed.items ++ in_turn (map naming_of (drop l.stmt-index l.stmts)) l.next (known_in l.fn.statics)
      ≡ l.fn.listed.items ++ in_turn (map naming_of l.stmts) l.at (known_in l.fn.statics);
}

abbrev pub invariant-number_turns-loop-index : goal.invariant-number_turns-loop-index
invariant-number_turns-loop-index l = record {
  names : KeepsNames l.fn.statics l.statics;
  rest : l.listed.items ++ turns (l.span.to - l.index) l.index (λ i. in_turn (map naming_of l.body) l.span.at (bind l.span.index.now (Index i) (known_in l.fn.statics)))
      ≡ l.fn.listed.items ++ turns (l.span.to - l.span.from) l.span.from (λ i. in_turn (map naming_of l.body) l.span.at (bind l.span.index.now (Index i) (known_in l.fn.statics)));
}

abbrev pub decreases-number_stmts : goal.decreases-number_stmts
decreases-number_stmts l = 4 * stmts_weight l.stmts.now + 1

abbrev pub decreases-number_stmt : goal.decreases-number_stmt
decreases-number_stmt l = 4 * stmt_weight l.stmt.now + 0

abbrev pub decreases-number_turns : goal.decreases-number_turns
decreases-number_turns l = 4 * stmts_weight l.body.now + 3

abbrev pub decreases-number_turn : goal.decreases-number_turn
decreases-number_turn l = 4 * stmts_weight l.body.now + 2
