use Rattle.std.proofs.Common.{refl, rules}
use Rattle.pr_lens_log.proofs.ExcerptLaws.{totals_more}
use Rattle.pr_lens_log.proofs.totals.Totals.with.Goals as goal

pub returns-clause-totals : goal.returns-clause-totals
returns-clause-totals c = λ cycles results h. totals_more cycles results c.args.logged.now c.args.self _ h refl refl c.first_with.ensures refl (search rules) (search rules)
