use Rattle.std.proofs.Common.{◌≡◌, ◌≤◌, ℕ, List, length}
use Rattle.pr_share.specs.declared.items.ShareItem.{ShareItem}
use Rattle.pr_share.specs.Items.{World, world, names_of, IsNoneOf, IsSharing, NoneFailed}
use Rattle.pr_share.proofs.rounds.make_round.Given as goal

abbrev pub invariant-loop-number : goal.invariant-loop-number
invariant-loop-number g l = record {
  sharing : (firsts : List (ShareItem g.row.N g.row.P)) (start : World) (r : ℕ) → IsSharing firsts l.initial.items start (world (g.S.Shelf.view l.initial.shelf).told (g.S.Shelf.view l.initial.shelf).faults (g.K.Sink.view l.initial.out).told) r 0
      → IsSharing firsts l.items start (world (g.S.Shelf.view l.shelf).told (g.S.Shelf.view l.shelf).faults (g.K.Sink.view l.out).told) r l.number;
  steady : NoneFailed l.items → NoneFailed l.initial.items × ((g.S.Shelf.view l.shelf).faults ≡ (g.S.Shelf.view l.initial.shelf).faults);
  count : length l.items ≡ length l.initial.items;
  told : (g.S.Shelf.view l.shelf).told ≡ (g.S.Shelf.view l.initial.shelf).told;
  others : (q : List ℕ) → IsNoneOf (names_of l.initial.items) q → (g.S.Shelf.view l.shelf).reach q ≡ (g.S.Shelf.view l.initial.shelf).reach q;
  names : names_of l.items ≡ names_of l.initial.items;
  shelf_later : (g.S.Shelf.view l.initial.shelf).faults ≤ (g.S.Shelf.view l.shelf).faults;
  out_later : (g.K.Sink.view l.initial.out).faults ≤ (g.K.Sink.view l.out).faults;
}
