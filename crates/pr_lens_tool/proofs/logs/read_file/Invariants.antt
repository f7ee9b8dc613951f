use Rattle.std.proofs.Common.{◌≡◌, ◌≢◌, ◌<◌, ◌≤◌, ◌+◌, ◌-◌, ◌^◌, ℕ, List}
use Rattle.pr_lens_log.specs.Readers.{HasRoom, choice_of}
use Rattle.pr_edge.specs.Files.{IsMissing, IsReadThrough}
use Rattle.pr_lens_tool.specs.Logs.{IsReadTo}
use Rattle.pr_lens_tool.proofs.logs.read_file.Given as goal

abbrev pub invariant-loop-place : goal.invariant-loop-place
invariant-loop-place g l = record {
  read : IsReadTo (g.S.Shelf.view l.initial.shelf).told l.name l.place l.reader;
  room : HasRoom l.reader (2 ^ 45 - l.place);
  near : l.place ≤ 17592186044416 + 4096;
  there : 0 < l.place → IsMissing (g.S.Shelf.view l.initial.shelf).told l.name → ⊥;
  choice : choice_of l.reader ≡ choice_of l.initial.reader;
  steady : (g.S.Shelf.view l.shelf).faults ≡ (g.S.Shelf.view l.initial.shelf).faults;
  same : (g.S.Shelf.view l.shelf).told ≡ (g.S.Shelf.view l.initial.shelf).told;
  reached : IsReadThrough l.place ((g.S.Shelf.view l.initial.shelf).reach l.name) ((g.S.Shelf.view l.shelf).reach l.name);
  others : (q : List ℕ) → q ≢ l.name → (g.S.Shelf.view l.shelf).reach q ≡ (g.S.Shelf.view l.initial.shelf).reach q;
}

abbrev pub decreases-loop-place : goal.decreases-loop-place
decreases-loop-place g l = 17592186044416 + 4097 - l.place
