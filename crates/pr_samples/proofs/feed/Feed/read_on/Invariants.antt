use Rattle.std.proofs.Common.{◌≡◌, ◌≢◌, ℕ, ◌+◌, ◌-◌, ◌*◌, ◌≤◌, List, length, Some}
use Rattle.pr_edge.specs.Files.{IsMissing}
use Rattle.pr_samples.specs.Scan.{begun, scan_of}
use Rattle.pr_samples.specs.Feed.{SameFile, IsReadBy, IsSeen, ReadsOn, name_of, widths_of, place_of, given_of}
use Rattle.pr_samples.specs.declared.tails.Tail.{Tail}
use Rattle.pr_samples.specs.declared.scan.Phase.{Phase}
use Rattle.pr_samples.proofs.Reading.{tail_weight}
use Rattle.pr_samples.proofs.feed.Feed.read_on.Given as goal

abbrev pub invariant-loop-cursor : goal.invariant-loop-cursor
invariant-loop-cursor g l = record {
  seen : (bytes : List ℕ) → IsSeen (g.S.Shelf.view l.initial.shelf).told bytes l.initial.self → ReadsOn (g.S.Shelf.view l.initial.shelf).told bytes l.initial.self l.self
      (λ file. IsReadBy l.initial.self (scan_of (widths_of l.initial.self) l.initial.self.numbers.items l.initial.cursor) file → IsReadBy l.self (scan_of (widths_of l.initial.self) l.self.numbers.items l.cursor) file);
  file : SameFile l.initial.self l.self;
  given : given_of l.self ≡ given_of l.initial.self;
  room : l.cursor.done + begun l.cursor.phase ≤ length (widths_of l.initial.self);
  into : l.into ≡ l.initial.into;
  spent : l.self.start ≡ l.self.end;
  missing : IsMissing (g.S.Shelf.view l.initial.shelf).told (name_of l.initial.self) → (l.self.tail ≡ Tail.Open) × (l.cursor.phase ≢ Phase.Wrong);
  steady : (g.S.Shelf.view l.shelf).faults ≡ (g.S.Shelf.view l.initial.shelf).faults;
  later : (g.S.Shelf.view l.initial.shelf).faults ≤ (g.S.Shelf.view l.shelf).faults;
  same : (g.S.Shelf.view l.shelf).told ≡ (g.S.Shelf.view l.initial.shelf).told;
  reached : (g.S.Shelf.view l.initial.shelf).reach (name_of l.initial.self) ≡ Some (place_of l.initial.self) → (g.S.Shelf.view l.shelf).reach (name_of l.initial.self) ≡ Some (place_of l.self);
  others : (q : List ℕ) → q ≢ name_of l.initial.self → (g.S.Shelf.view l.shelf).reach q ≡ (g.S.Shelf.view l.initial.shelf).reach q;
}

abbrev pub decreases-loop-cursor : goal.decreases-loop-cursor
decreases-loop-cursor g l = 2 * (l.self.limit + 1 - l.self.place) + tail_weight l.self.tail
