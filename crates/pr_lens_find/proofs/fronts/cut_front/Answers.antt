use Rattle.pr_lens_find.proofs.fronts.cut_front.Goals as goal

pub returns-in_ok-push-in-Some-clause-some : goal.returns-in_ok-push-in-Some-clause-some
returns-in_ok-push-in-Some-clause-some c = record {
  front = c.in-Some.program;
  read = rw c.in-Some.is at c.in_ok-front_of.ensures.read;
  is = record { kept = c.in_ok-kept-in-Some.kept; left = c.in_ok-kept-in-Some.ensures; items = c.in_ok-push-in-Some.ensures.items };
}
