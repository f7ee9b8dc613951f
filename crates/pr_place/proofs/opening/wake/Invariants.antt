use Rattle.std.proofs.Common.{◌≡◌, ◌≤◌, ◌+◌, ℕ, drop, get_or, length}
use Rattle.pr_place.specs.Opening.{readings, AreLists, Woken}
use Rattle.pr_place.proofs.opening.wake.Given as goal

abbrev pub invariant-loop-group : goal.invariant-loop-group
invariant-loop-group l = record {
  lists : AreLists l.tables.class.items l.waits.items l.candidates;
  long : length l.waits.items ≡ length l.initial.waits.items;
  used : (g : ℕ) → readings l.tables g (drop l.group-index l.groups) ≤ get_or l.waits.items g 0;
  counted : (g : ℕ) → get_or l.waits.items g 0 + readings l.tables g l.groups ≡ get_or l.initial.waits.items g 0 + readings l.tables g (drop l.group-index l.groups);
  woken : Woken l.tables.class.items l.initial.waits.items l.initial.candidates.ready.items l.waits.items l.candidates.ready.items;
}
