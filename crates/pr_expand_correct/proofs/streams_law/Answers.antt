use Rattle.pr_expand_correct.proofs.NumberLaws.{out-is, streams-have_lists}
use Rattle.pr_expand_correct.proofs.streams_law.Goals as goal

pub returns-clause-lists : goal.returns-clause-lists
returns-clause-lists c = streams-have_lists

pub returns-clause-rows : goal.returns-clause-rows
returns-clause-rows c = out-is
