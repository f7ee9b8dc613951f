use Rattle.pr_tool_modes.proofs.LineLemmas.{number_put}
use Rattle.pr_tool_modes.proofs.lines.push_line.Goals as goal

pub loop-i-preserved : goal.loop-i-preserved
loop-i-preserved c = number_put c.loop-i.text.items c.push_number.new.text.items _ c.args.numbers.now c.loop-i.i c.loop-i-test.true c.loop-i.invariant c.in_ok-push_number.ensures
