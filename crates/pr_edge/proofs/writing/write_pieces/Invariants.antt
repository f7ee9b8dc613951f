use Rattle.std.proofs.Common.{◌≡◌, ◌≤◌, ◌-◌, length, take}
use Rattle.pr_edge.specs.Tape.{Appends}
use Rattle.pr_edge.proofs.writing.write_pieces.Given as goal

abbrev pub invariant-loop-done : goal.invariant-loop-done
invariant-loop-done g l = record {
  within : l.done ≤ length l.bytes;
  front : Appends (g.K.Sink.view l.initial.sink).told (g.K.Sink.view l.sink).told (take l.done l.bytes);
  steady : (g.K.Sink.view l.sink).faults ≡ (g.K.Sink.view l.initial.sink).faults;
}

abbrev pub decreases-loop-done : goal.decreases-loop-done
decreases-loop-done g l = length l.bytes - l.done
