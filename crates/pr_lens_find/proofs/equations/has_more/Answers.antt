use Rattle.std.proofs.Common.{◌<◌, ◌≤◌, arith}
use Rattle.std.proofs.lemmas.Bool.{ltb-true, ltb-false}
use Rattle.pr_lens_find.proofs.MadeLemmas.{fewer, more_of_flat, few_of_flat, few_of_refused}
use Rattle.pr_lens_find.proofs.equations.has_more.Goals as goal

pub returns-in-Flat-clause-more : goal.returns-in-Flat-clause-more
returns-in-Flat-clause-more c = λ more.
    let test : c.args.count < c.len.result = ltb-true c.args.count c.len.result more in
    more_of_flat _ c.in-Flat.flat c.args.count (rw c.in-Flat.is at c.in_ok-flat.ensures) (omega (arith, test))

pub returns-in-Flat-clause-few : goal.returns-in-Flat-clause-few
returns-in-Flat-clause-few c = λ few.
    let test : c.len.result ≤ c.args.count = ltb-false c.args.count c.len.result few in
    few_of_flat _ c.in-Flat.flat c.args.count (rw c.in-Flat.is at c.in_ok-flat.ensures) (omega (arith, test))

pub returns-in-TooMany-clause-more : goal.returns-in-TooMany-clause-more
returns-in-TooMany-clause-more c = λ _. fewer _ 16384 _ (omega arith) (rw c.in-TooMany.is at c.in_ok-flat.ensures)

pub returns-in-Refused-clause-few : goal.returns-in-Refused-clause-few
returns-in-Refused-clause-few c = λ _. few_of_refused _ c.args.count (rw c.in-Refused.is at c.in_ok-flat.ensures)
