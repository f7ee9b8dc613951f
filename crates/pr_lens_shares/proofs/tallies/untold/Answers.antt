use Rattle.pr_lens_shares.proofs.TallyLemmas.{limit_untold, turns_untold}
use Rattle.pr_lens_shares.proofs.tallies.untold.Goals as goal

pub returns-in-Turns : goal.returns-in-Turns
returns-in-Turns c = λ columns narrowed program widths not. turns_untold columns narrowed program widths c.args.fault c.in-Turns.is not

pub returns-in-Limit : goal.returns-in-Limit
returns-in-Limit c = λ columns narrowed program widths not. limit_untold columns narrowed program widths c.args.fault c.in-Limit._which c.in-Limit.is not
