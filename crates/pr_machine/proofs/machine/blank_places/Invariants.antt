use Rattle.std.proofs.Common.{◌≡◌, vec_len}
use Rattle.pr_machine.specs.Places.{AreBare}
use Rattle.pr_machine.proofs.machine.blank_places.Given as goal

abbrev pub invariant-loop : goal.invariant-loop
invariant-loop g l = record {
  count : vec_len l.places ≡ l.counter;
  bare : AreBare l.places.items;
}
