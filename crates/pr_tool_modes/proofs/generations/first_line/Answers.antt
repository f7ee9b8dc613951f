use Rattle.std.proofs.Common.{sym, ◌∙◌}
use Rattle.pr_tool_modes.proofs.GenTexts.{line_cut, line_whole}
use Rattle.pr_tool_modes.proofs.generations.first_line.Goals as goal

pub returns-in-Some : goal.returns-in-Some
returns-in-Some c = line_cut c.args.text.now c.in-Some.end (sym c.line_end.ensures.place ∙ c.in-Some.is)

pub returns-in-None : goal.returns-in-None
returns-in-None c = line_whole c.args.text.now (sym c.line_end.ensures.place ∙ c.in-None.is)
