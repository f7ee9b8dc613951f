use Rattle.std.proofs.Common.{◌≡◌, ◌+◌, ◌^◌, ◌≤◌, ℕ, List, length}
use Rattle.pr_share.specs.Items.{world, names_of, IsNoneOf, IsSharing, NoneFailed}
use Rattle.pr_share.proofs.rounds.share.Given as goal

abbrev pub invariant-loop : goal.invariant-loop
invariant-loop g l = record {
  count : length l.parts ≡ length l.initial.parts;
  sharing : IsSharing l.initial.parts l.parts (world (g.S.Shelf.view l.initial.shelf).told (g.S.Shelf.view l.initial.shelf).faults (g.K.Sink.view l.initial.out).told) (world (g.S.Shelf.view l.shelf).told (g.S.Shelf.view l.shelf).faults (g.K.Sink.view l.out).told) l.counter 0;
  steady : NoneFailed l.parts → (g.S.Shelf.view l.shelf).faults ≡ (g.S.Shelf.view l.initial.shelf).faults;
  few : l.counter ≤ 2 ^ 40 + 1;
  told : (g.S.Shelf.view l.shelf).told ≡ (g.S.Shelf.view l.initial.shelf).told;
  others : (q : List ℕ) → IsNoneOf (names_of l.initial.parts) q → (g.S.Shelf.view l.shelf).reach q ≡ (g.S.Shelf.view l.initial.shelf).reach q;
  names : names_of l.parts ≡ names_of l.initial.parts;
  shelf_later : (g.S.Shelf.view l.initial.shelf).faults ≤ (g.S.Shelf.view l.shelf).faults;
  out_later : (g.K.Sink.view l.initial.out).faults ≤ (g.K.Sink.view l.out).faults;
}
