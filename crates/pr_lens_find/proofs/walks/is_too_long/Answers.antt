use Rattle.std.proofs.Common.{inl}
use Rattle.pr_lens_find.proofs.WalkLemmas.{kept_short, broken_short}
use Rattle.pr_lens_find.proofs.walks.is_too_long.Goals as goal

pub returns-in-None-clause-short : goal.returns-in-None-clause-short
returns-in-None-clause-short c = λ _. inl (rw c.in-None.is at c.in_ok-front_of.ensures.none)

pub returns-in-TooLong-clause-long : goal.returns-in-TooLong-clause-long
returns-in-TooLong-clause-long c = λ _. record {
  program = c.in-Some.program;
  read = rw c.in-Some.is at c.in_ok-front_of.ensures.read;
  offends = rw c.in-TooLong.is at c.in_ok-see-in-Some.ensures;
}

pub returns-in-Kept-clause-short : goal.returns-in-Kept-clause-short
returns-in-Kept-clause-short c = λ _. kept_short _ c.in-Some.program (rw c.in-Some.is at c.in_ok-front_of.ensures.read) (rw c.in-Kept.is at c.in_ok-see-in-Some.ensures)

pub returns-in-Broken-clause-short : goal.returns-in-Broken-clause-short
returns-in-Broken-clause-short c = λ _. broken_short _ c.in-Some.program _ _ (rw c.in-Some.is at c.in_ok-front_of.ensures.read) (rw c.in-Broken.is at c.in_ok-see-in-Some.ensures)
