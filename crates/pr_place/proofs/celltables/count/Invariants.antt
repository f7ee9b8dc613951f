use Rattle.std.proofs.Common.{◌≡◌, ◌+◌, ℕ, drop, get_or, length}
use Rattle.pr_place.specs.Registers.{count_of}
use Rattle.pr_place.proofs.celltables.count.Given as goal

abbrev pub invariant-loop-cell : goal.invariant-loop-cell
invariant-loop-cell l = record {
  counted : (x : ℕ) → get_or l.uses x 0 + count_of x (drop l.cell-index l.reads) ≡ get_or l.initial.uses x 0 + count_of x l.reads;
  long : length l.uses ≡ length l.initial.uses;
}
