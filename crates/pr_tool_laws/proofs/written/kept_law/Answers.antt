use Rattle.pr_tool_laws.proofs.Kept.{kept_file, kept_mark}
use Rattle.pr_tool_laws.proofs.written.kept_law.Goals as goal

pub returns : goal.returns
returns c = record { file = kept_file; mark = kept_mark }
