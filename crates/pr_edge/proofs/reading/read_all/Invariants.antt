use Rattle.std.proofs.Common.{◌≡◌, ◌≢◌, ℕ, ◌+◌, ◌-◌, ◌≤◌, List, vec_len}
use Rattle.pr_edge.specs.Files.{OfFile, IsPrefix, IsMissing, IsReadThrough}
use Rattle.pr_edge.proofs.reading.read_all.Given as goal

abbrev pub invariant-loop-chunk : goal.invariant-loop-chunk
invariant-loop-chunk g l = record {
  front : OfFile (g.S.Shelf.view l.initial.shelf).told l.name (IsPrefix l.bytes.items);
  same : (g.S.Shelf.view l.shelf).told ≡ (g.S.Shelf.view l.initial.shelf).told;
  others : (q : List ℕ) → q ≢ l.name → (g.S.Shelf.view l.shelf).reach q ≡ (g.S.Shelf.view l.initial.shelf).reach q;
  near : vec_len l.bytes ≤ l.limit + 4096;
  read : IsReadThrough (vec_len l.bytes) ((g.S.Shelf.view l.initial.shelf).reach l.name) ((g.S.Shelf.view l.shelf).reach l.name);
  steady : (g.S.Shelf.view l.shelf).faults ≡ (g.S.Shelf.view l.initial.shelf).faults;
  unread : IsMissing (g.S.Shelf.view l.initial.shelf).told l.name → vec_len l.bytes ≡ 0;
}

abbrev pub decreases-loop-chunk : goal.decreases-loop-chunk
decreases-loop-chunk g l = l.limit + 1 - vec_len l.bytes
