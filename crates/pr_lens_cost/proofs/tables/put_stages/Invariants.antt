use Rattle.std.proofs.Common.{◌≡◌, ◌++◌, drop}
use Rattle.pr_lens_cost.specs.Texts.{stage_lines, stages_text}
use Rattle.pr_lens_cost.proofs.tables.put_stages.Given as goal

abbrev pub invariant-loop-number : goal.invariant-loop-number
invariant-loop-number l = l.text.items ++ stage_lines l.number (drop l.number l.stages) ≡ l.fn.text.items ++ stages_text l.stages
