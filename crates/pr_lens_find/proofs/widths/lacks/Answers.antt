use Rattle.std.proofs.Common.{inl}
use Rattle.pr_lens_find.proofs.widths.lacks.Goals as goal

pub returns-in-None-clause-no : goal.returns-in-None-clause-no
returns-in-None-clause-no c = λ _. inl (record {
  flat = c.in-Some.flat;
  has = rw c.in-Some.is at c.in_ok-flat.ensures;
  have = rw c.in-None.is at c.in_ok-first_without.ensures;
})

pub returns-clause-yes : goal.returns-clause-yes
returns-clause-yes c = λ _. record {
  flat = c.in-Some.flat;
  has = rw c.in-Some.is at c.in_ok-flat.ensures;
  number = c.in-Some-2._equation;
  without = rw c.in-Some-2.is at c.in_ok-first_without.ensures;
}
