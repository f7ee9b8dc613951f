use Rattle.pr_tool_laws.proofs.Kept.{file_good, mark_good}
use Rattle.pr_tool_laws.proofs.Lengths.{file_short, mark_short}
use Rattle.pr_tool_laws.proofs.written.written_law.Goals as goal

pub returns : goal.returns
returns c = record { file = file_good; mark = mark_good; short_file = file_short; short_mark = mark_short }
