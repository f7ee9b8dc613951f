use Rattle.std.proofs.Common.{◌≡◌, ◌++◌}
use Rattle.pr_lens_chart.specs.Pictures.{stage_keys}
use Rattle.pr_lens_chart.proofs.frames.put_keys.Given as goal

abbrev pub invariant-loop-stage : goal.invariant-loop-stage
invariant-loop-stage l = l.text.items ≡ l.fn.text.items ++ stage_keys l.stage l.stages l.y
