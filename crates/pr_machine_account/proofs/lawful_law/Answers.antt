use Rattle.pr_machine_account.proofs.AccountLaws.{lawful, done_below}
use Rattle.pr_machine_account.proofs.lawful_law.Goals as goal

pub returns : goal.returns
returns c = record { lawful = λ v p h hv. lawful v p h hv; behind = λ s t es. done_below s t es }
