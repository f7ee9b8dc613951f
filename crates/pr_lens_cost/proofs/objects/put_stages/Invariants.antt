use Rattle.std.proofs.Common.{◌≡◌, ◌++◌, drop}
use Rattle.pr_lens_cost.specs.Objects.{stage_objects}
use Rattle.pr_lens_cost.proofs.objects.put_stages.Given as goal

abbrev pub invariant-loop-number : goal.invariant-loop-number
invariant-loop-number l = l.text.items ++ stage_objects l.number (drop l.number l.stages) ≡ l.fn.text.items ++ stage_objects 0 l.stages
