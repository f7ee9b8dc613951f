use Rattle.std.proofs.Common.{◌≡◌, ◌≤◌, ◌+◌, ◌-◌, ◌++◌, ℕ, List, length, take}
use Rattle.pr_lens_log.specs.Readers.{HasRead, HasRoom}
use Rattle.pr_lens_log.proofs.readers.Reader.read.Given as goal

abbrev pub invariant-loop-start : goal.invariant-loop-start
invariant-loop-start l = record {
  within : l.start ≤ length l.piece;
  read : (text : List ℕ) → HasRead text l.fn.self → HasRead (text ++ take l.start l.piece) l.self;
  choice : l.self.choice ≡ l.fn.self.choice;
  room : (more : ℕ) → HasRoom l.fn.self (more + l.start) → HasRoom l.self more;
}

abbrev pub decreases-loop-start : goal.decreases-loop-start
decreases-loop-start l = length l.piece - l.start
