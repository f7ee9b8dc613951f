use Rattle.std.proofs.Common.{◌≡◌, ◌≢◌, ℕ, ◌+◌, ◌-◌, ◌*◌, ◌≤◌, List, Some}
use Rattle.std.specs.Prelude.{⊤}
use Rattle.pr_samples.specs.Feed.{SameFile, IsSeen, ReadsOn, name_of, place_of}
use Rattle.pr_samples.proofs.Reading.{tail_weight}
use Rattle.pr_samples.proofs.feed.Feed.is_too_long.Given as goal

abbrev pub invariant-loop-shelf : goal.invariant-loop-shelf
invariant-loop-shelf g l = record {
  seen : (bytes : List ℕ) → IsSeen (g.S.Shelf.view l.initial.shelf).told bytes l.initial.self → ReadsOn (g.S.Shelf.view l.initial.shelf).told bytes l.initial.self l.self (λ file. ⊤);
  file : SameFile l.initial.self l.self;
  spent : l.self.start ≡ l.self.end;
  steady : (g.S.Shelf.view l.shelf).faults ≡ (g.S.Shelf.view l.initial.shelf).faults;
  later : (g.S.Shelf.view l.initial.shelf).faults ≤ (g.S.Shelf.view l.shelf).faults;
  same : (g.S.Shelf.view l.shelf).told ≡ (g.S.Shelf.view l.initial.shelf).told;
  reached : (g.S.Shelf.view l.initial.shelf).reach (name_of l.initial.self) ≡ Some (place_of l.initial.self) → (g.S.Shelf.view l.shelf).reach (name_of l.initial.self) ≡ Some (place_of l.self);
  others : (q : List ℕ) → q ≢ name_of l.initial.self → (g.S.Shelf.view l.shelf).reach q ≡ (g.S.Shelf.view l.initial.shelf).reach q;
}

abbrev pub decreases-loop-shelf : goal.decreases-loop-shelf
decreases-loop-shelf g l = 2 * (l.self.limit + 1 - l.self.place) + tail_weight l.self.tail
