use Rattle.std.proofs.Common.{rules}
use Rattle.pr_code_show.proofs.SetLemmas.{set_is}
use Rattle.pr_code_show.proofs.counts.is_set.Goals as goal

pub returns : goal.returns
returns c = set_is c.args.pe.now c.ne.result (λ same. search (rules, same)) (λ zero. search (rules, zero))
