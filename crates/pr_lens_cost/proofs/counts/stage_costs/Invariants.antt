use Rattle.std.proofs.Common.{◌≡◌, map, take}
use Rattle.pr_conf.specs.Configuration.{pes_of}
use Rattle.pr_lens_cost.specs.Costs.{stage_cost}
use Rattle.pr_lens_cost.proofs.counts.stage_costs.Given as goal

abbrev pub invariant-loop-stage : goal.invariant-loop-stage
invariant-loop-stage g l = l.costs.items ≡ map (λ s. stage_cost (pes_of s)) (take l.stage-index l.stages)
