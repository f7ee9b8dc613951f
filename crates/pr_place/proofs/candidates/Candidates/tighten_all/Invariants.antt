use Rattle.std.proofs.Common.{◌≡◌, length}
use Rattle.pr_place.specs.Candidates.{IsCovered}
use Rattle.pr_place.proofs.candidates.Candidates.tighten_all.Given as goal

abbrev pub invariant-loop-group : goal.invariant-loop-group
invariant-loop-group l = record {
  ready : l.self.ready.items ≡ l.initial.self.ready.items;
  long : length l.self.summary.items ≡ length l.initial.self.summary.items;
  covered : IsCovered l.self.ready.items l.self.summary.items;
}
