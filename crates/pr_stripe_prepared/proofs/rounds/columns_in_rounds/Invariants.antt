use Rattle.std.proofs.Common.{◌≡◌, ℕ, List, length}
use Rattle.pr_conf.specs.declared.pes.Pe.{Pe}
use Rattle.pr_stripe_prepared.specs.Prepared.{IsPrepared}
use Rattle.pr_stripe_prepared.specs.Rounds.{IsRight}
use Rattle.pr_stripe_prepared.proofs.rounds.columns_in_rounds.Given as goal

abbrev pub invariant-loop-round : goal.invariant-loop-round
invariant-loop-round l = record {
  a : length l.made.a ≡ 16;
  output : length l.made.output ≡ 16;
  carries : length l.made.carries ≡ 16;
  right : (pes : List Pe) (count : ℕ) → IsPrepared l.q pes count → IsRight l.q pes l.row l.fn.state l.made.a l.made.output l.made.carries l._round;
}
