use Rattle.pr_lens_origins.proofs.PlaceLaws.{column_is, line_is}
use Rattle.pr_lens_origins.proofs.laws.places_law.Goals as goal

pub returns-clause-line : goal.returns-clause-line
returns-clause-line c = line_is

pub returns-clause-column : goal.returns-clause-column
returns-clause-column c = column_is
