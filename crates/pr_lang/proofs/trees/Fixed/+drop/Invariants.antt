use Rattle.std.proofs.Common.{◌≤◌}
use Rattle.pr_lang.proofs.trees.Fixed.TheLaws.{the_size}
use Rattle.pr_lang.proofs.trees.Fixed.+drop.Given as goal

abbrev pub invariant-loop-self : goal.invariant-loop-self
invariant-loop-self l = the_size l.self ≤ the_size l.initial.self
