use Rattle.pr_source_laws.proofs.Meaning.{rows_mean}
use Rattle.pr_source_laws.proofs.meaning_law.Goals as goal

pub returns : goal.returns
returns c = rows_mean
