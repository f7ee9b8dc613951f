use Rattle.std.proofs.Common.{◌≡◌, ◌+◌, ◌≤◌, ◌++◌, length, replicate}
use Rattle.pr_machine_account.specs.Account.{Take}
use Rattle.pr_machine.specs.Stands.{History, waiting_results, IsKept}
use Rattle.pr_run.specs.Setting.{Setting}
use Rattle.pr_run.specs.Turns.{HasDone}
use Rattle.pr_run.proofs.writing.write_waiting.Given as goal

abbrev pub invariant-loop : goal.invariant-loop
invariant-loop g l = record {
  done : (s : Setting) (h : History) → HasDone s l.initial.machine (g.K.Sink.view l.initial.out).told h → HasDone s l.machine (g.K.Sink.view l.out).told (h ++ replicate l.counter Take);
  kept : IsKept l.initial.machine l.machine;
  left : l.counter + length (waiting_results l.machine) ≡ length (waiting_results l.initial.machine);
  size : length l.bytes ≡ length l.initial.bytes;
  later : (g.K.Sink.view l.initial.out).faults ≤ (g.K.Sink.view l.out).faults;
}
