use Rattle.std.proofs.Common.{◌≡◌, ◌++◌, map, drop}
use Rattle.pr_conf.specs.Configuration.{pes_of}
use Rattle.pr_code_show.specs.Shown.{stage_lines}
use Rattle.pr_code_show.proofs.lines.put_stages.Given as goal

abbrev pub invariant-loop-number : goal.invariant-loop-number
invariant-loop-number g l = l.text.items ++ stage_lines l.number (map pes_of (drop l.number l.stages)) ≡ l.fn.text.items ++ stage_lines 0 (map pes_of l.stages)
