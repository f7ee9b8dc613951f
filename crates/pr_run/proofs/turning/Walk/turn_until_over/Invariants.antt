use lib.Dec.{eqb}
use mathlib.Core.Bool.{not}
use Rattle.std.proofs.Common.{◌≡◌, ◌+◌, ◌-◌, ◌≤◌, ◌^◌, drop, length}
use Rattle.pr_control.specs.Drain.{drain}
use Rattle.pr_samples.specs.Stall.{turns_left}
use Rattle.pr_samples.specs.Feed.{widths_of}
use Rattle.pr_machine.specs.Stands.{conf_of, stripes_of, time_of}
use Rattle.pr_run_script.specs.Script.{begun, turns}
use Rattle.pr_run.specs.Setting.{setting_of, stall_turns}
use Rattle.pr_run.specs.Turns.{IsOn}
use Rattle.pr_run.proofs.turning.Walk.turn_until_over.Given as goal

abbrev pub invariant-loop-now : goal.invariant-loop-now
invariant-loop-now g l = record {
  on : IsOn (setting_of l.initial.machine l.initial.stall l.initial.feed (g.S.Shelf.view l.initial.shelf) (g.K.Sink.view l.initial.out).told (not (eqb g.row.LOG 0)))
      (λ xs. turns (length (conf_of l.initial.machine).stages) (stripes_of l.initial.machine) (stall_turns l.initial.stall) l.asked (begun xs))
      l.machine l.feed (g.S.Shelf.view l.shelf) (g.K.Sink.view l.out).told l.self.last;
  widths : l.self.widths.now ≡ l.initial.self.widths.now;
  left : turns_left l.stall ≡ drop l.asked (turns_left l.initial.stall);
  inputs : widths_of l.feed ≡ (conf_of l.machine).inputs;
  conf : l.machine.parts.conf ≡ l.initial.machine.parts.conf;
  stripes : stripes_of l.machine ≡ stripes_of l.initial.machine;
  time : time_of l.machine ≤ l.asked;
  later : (g.K.Sink.view l.initial.out).faults ≤ (g.K.Sink.view l.out).faults;
}

abbrev pub decreases-loop-now : goal.decreases-loop-now
decreases-loop-now g l = length (stall_turns l.initial.stall) + drain (length (conf_of l.initial.machine).stages) (stripes_of l.initial.machine) (2 ^ 40) + 1 - l.asked
