use Rattle.std.proofs.Common.{rules}
use Rattle.pr_stripe_prepared.proofs.places.row_row.Goals as goal

pub returns : goal.returns
returns c = record { long = c.made_of.ensures.long; each = λ k d l. let made = c.made_of.ensures.each 0 k d l in search rules }
