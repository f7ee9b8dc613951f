use Rattle.std.proofs.Common.{◌≡◌, ◌≢◌, ◌≤◌, ◌-◌, ℕ, List, length, Some}
use Rattle.std.specs.Prelude.{vec_len}
use Rattle.pr_edge.specs.Files.{IsMissing}
use Rattle.pr_flat.specs.Shape.{shapes_of}
use Rattle.pr_samples.specs.Feed.{name_of, given_of, most_of, place_of, reads_nothing, SameFile}
use Rattle.pr_lens_rtl_text.specs.Limits.{most_text_bytes}
use Rattle.pr_lens_bench.proofs.BenchLemmas.{HasMade}
use Rattle.pr_lens_bench.proofs.reading.lines_in.Given as goal

abbrev pub invariant-samples : goal.invariant-samples
invariant-samples g l = record {
  made : HasMade (g.S.Shelf.view l.initial.shelf).told (shapes_of l.trial.front.flat.equations.items) l.trial.front.flat.outputs.items l.trial.front.widths l.trial.design l.initial.feed l.feed l.evaluator l.text.items l.count;
  few : l.count ≤ length l.text.items;
  short : length l.text.items ≤ most_text_bytes;
  there : IsMissing (g.S.Shelf.view l.initial.shelf).told (name_of l.initial.feed) → reads_nothing l.feed;
  sample : length l.sample ≡ vec_len l.trial.front.scoped.inputs;
  row : length l.row ≡ vec_len l.trial.front.flat.outputs;
  file : SameFile l.initial.feed l.feed;
  steady : (g.S.Shelf.view l.shelf).faults ≡ (g.S.Shelf.view l.initial.shelf).faults;
  later : (g.S.Shelf.view l.initial.shelf).faults ≤ (g.S.Shelf.view l.shelf).faults;
  same : (g.S.Shelf.view l.shelf).told ≡ (g.S.Shelf.view l.initial.shelf).told;
  reached : (g.S.Shelf.view l.initial.shelf).reach (name_of l.initial.feed) ≡ Some (place_of l.initial.feed) → (g.S.Shelf.view l.shelf).reach (name_of l.initial.feed) ≡ Some (place_of l.feed);
  others : (q : List ℕ) → q ≢ name_of l.initial.feed → (g.S.Shelf.view l.shelf).reach q ≡ (g.S.Shelf.view l.initial.shelf).reach q;
}

abbrev pub decreases-samples : goal.decreases-samples
decreases-samples g l = most_of l.feed - given_of l.feed
