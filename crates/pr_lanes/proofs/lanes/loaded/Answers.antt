use Rattle.std.proofs.Common.{length, ap, ◌∙◌, arith}
use Rattle.std.proofs.lemmas.List.{take_all}
use Rattle.pr_lanes.proofs.lanes.loaded.Goals as goal

pub returns-clause-is : goal.returns-clause-is
returns-clause-is c = take_all 16 c.args.bytes.now (omega (arith, c.requires))

pub returns-clause-long : goal.returns-clause-long
returns-clause-long c = ap length (take_all 16 c.args.bytes.now (omega (arith, c.requires))) ∙ c.requires
