use Rattle.pr_machine_account.specs.Account.{account}
use Rattle.pr_machine_account.proofs.AccountLaws.{lawful}
use Rattle.pr_machine_account.proofs.CycleClause.{cycle_is}
use Rattle.pr_machine_account.proofs.cycle_law.Goals as goal

pub returns : goal.returns
returns c = λ v p h hv hp. cycle_is v p (account v p h) hv hp (lawful v p h hv)
