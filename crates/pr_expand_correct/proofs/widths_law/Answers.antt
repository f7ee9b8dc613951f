use Rattle.pr_expand_correct.proofs.AgreedPrograms.{widths-exist, widths-found, widths-needed}
use Rattle.pr_expand_correct.proofs.widths_law.Goals as goal

pub returns-clause-exist : goal.returns-clause-exist
returns-clause-exist c = widths-exist

pub returns-clause-needed : goal.returns-clause-needed
returns-clause-needed c = widths-needed

pub returns-clause-outputs : goal.returns-clause-outputs
returns-clause-outputs c = widths-found
