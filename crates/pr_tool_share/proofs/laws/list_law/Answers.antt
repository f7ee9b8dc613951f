use Rattle.pr_tool_share.proofs.ListLaws.{one_list, one_line, not_both}
use Rattle.pr_tool_share.proofs.laws.list_law.Goals as goal

pub returns-clause-one_list : goal.returns-clause-one_list
returns-clause-one_list c = one_list

pub returns-clause-one_line : goal.returns-clause-one_line
returns-clause-one_line c = one_line

pub returns-clause-not_both : goal.returns-clause-not_both
returns-clause-not_both c = not_both
