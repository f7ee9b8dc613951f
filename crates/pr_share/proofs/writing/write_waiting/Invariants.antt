use Rattle.std.proofs.Common.{◌≡◌, ◌+◌, ◌≤◌, ◌++◌, length, replicate}
use Rattle.pr_machine_account.specs.Account.{Take, account}
use Rattle.pr_machine.specs.Stands.{History, waiting_results, IsKept}
use Rattle.pr_share.specs.Turns.{Setting, stages_of, HasShown}
use Rattle.pr_share.proofs.writing.write_waiting.Given as goal

abbrev pub invariant-loop : goal.invariant-loop
invariant-loop g l = record {
  shown : (s : Setting) (h : History) → s.number ≡ l.number → HasShown s l.initial.machine (g.K.Sink.view l.initial.out).told h → HasShown s l.machine (g.K.Sink.view l.out).told (h ++ replicate l.counter Take);
  offered : (s : Setting) (h : History) → s.number ≡ l.number → HasShown s l.initial.machine (g.K.Sink.view l.initial.out).told h
      → (account (stages_of s) s.stripes (h ++ replicate l.counter Take)).offered ≡ (account (stages_of s) s.stripes h).offered;
  kept : IsKept l.initial.machine l.machine;
  left : l.counter + length (waiting_results l.machine) ≡ length (waiting_results l.initial.machine);
  size : length l.bytes ≡ length l.initial.bytes;
  later : (g.K.Sink.view l.initial.out).faults ≤ (g.K.Sink.view l.out).faults;
}
