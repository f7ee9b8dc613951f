use Rattle.pr_machine_account.proofs.CountLaws.{time_is, all_have_left, not_all_before}
use Rattle.pr_machine_account.proofs.cycles_law.Goals as goal

pub returns : goal.returns
returns c = record {
  time = λ v p k xs hv. time_is v p k xs hv;
  last = λ v p xs hv hp. all_have_left v p xs hv hp;
  before = λ v p k xs hv hp h. not_all_before v p k xs hv hp h;
}
