use Rattle.std.proofs.Common.{arith}
use Rattle.pr_samples.proofs.StallLemmas.{turns_of-le}
use Rattle.pr_samples.proofs.stall.Stall.make.Goals as goal

pub returns-in-None-clause-few : goal.returns-in-None-clause-few
returns-in-None-clause-few c = omega (arith, turns_of-le c.args.text.items, c.requires)
