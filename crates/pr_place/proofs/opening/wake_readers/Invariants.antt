use Rattle.std.proofs.Common.{◌≡◌, ◌≤◌, ◌+◌, ℕ, drop, get_or, length}
use Rattle.pr_place.specs.Registers.{count_of}
use Rattle.pr_place.specs.Opening.{AreLists, Woken}
use Rattle.pr_place.proofs.opening.wake_readers.Given as goal

abbrev pub invariant-loop-reader : goal.invariant-loop-reader
invariant-loop-reader l = record {
  lists : AreLists l.class l.waits.items l.candidates;
  long : length l.waits.items ≡ length l.initial.waits.items;
  used : (g : ℕ) → count_of g (drop l.reader-index l.readers) ≤ get_or l.waits.items g 0;
  counted : (g : ℕ) → get_or l.waits.items g 0 + count_of g l.readers ≡ get_or l.initial.waits.items g 0 + count_of g (drop l.reader-index l.readers);
  woken : Woken l.class l.initial.waits.items l.initial.candidates.ready.items l.waits.items l.candidates.ready.items;
}
