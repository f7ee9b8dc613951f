use Rattle.std.proofs.Common.{◌≡◌, length}
use Rattle.pr_lens_extents.specs.Verdicts.{all_joined}
use Rattle.pr_lens_extents.proofs.Joins.{joined_from}
use Rattle.pr_lens_extents.proofs.verdicts.join_all.Given as goal

abbrev pub invariant-loop-at : goal.invariant-loop-at
invariant-loop-at l = record {
  long : length l.joins ≡ length l.initial.joins;
  rest : joined_from l.at l.joins l.turn ≡ all_joined l.initial.joins l.turn;
}
