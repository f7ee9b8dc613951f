use Rattle.pr_tool_share.proofs.ShareVerdicts.{share_owed, one_share}
use Rattle.pr_tool_share.proofs.SharedLines.{share_lines}
use Rattle.pr_tool_share.proofs.laws.share_law.Goals as goal

pub returns-clause-owed : goal.returns-clause-owed
returns-clause-owed c = share_owed

pub returns-clause-one : goal.returns-clause-one
returns-clause-one c = one_share

pub returns-clause-lines : goal.returns-clause-lines
returns-clause-lines c = share_lines
