use Rattle.pr_machine_account.specs.Account.{account}
use Rattle.pr_machine_account.proofs.AccountLaws.{lawful}
use Rattle.pr_machine_account.proofs.ReplyLaws.{results_prefix, given_one, none_given}
use Rattle.pr_machine_account.proofs.prefix_law.Goals as goal

pub returns : goal.returns
returns c = record {
  results = λ M v p tap h hv. results_prefix M v p tap h hv;
  given = λ M v p tap h hv l. given_one M v p tap (account v p h) (lawful v p h hv) l;
  empty = λ M v p tap h l. none_given M v p tap (account v p h) l;
}
