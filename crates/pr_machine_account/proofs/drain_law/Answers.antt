use Rattle.std.proofs.Common.{List, ℕ}
use Rattle.pr_machine_account.specs.Account.{account}
use Rattle.pr_machine_account.specs.Drain.{Feeding}
use Rattle.pr_machine_account.proofs.AccountLaws.{lawful}
use Rattle.pr_machine_account.proofs.DrainLaws.{drained, drained_results}
use Rattle.pr_machine_account.proofs.drain_law.Goals as goal

pub returns : goal.returns
returns c = record {
  drained = λ v p h xs k hv hp long. drained v p (record { account = account v p h; rest = xs }) k hv hp (lawful v p h hv) long;
  results = λ M v p tap h xs k hv hp long. (
      let s : Feeding (List ℕ) = record { account = account v p h; rest = xs } in
      drained_results M v p tap h xs k hv (drained v p s k hv hp (lawful v p h hv) long));
}
