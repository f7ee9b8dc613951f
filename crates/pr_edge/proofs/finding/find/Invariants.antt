use Rattle.std.proofs.Common.{◌≡◌, ℕ, ◌<◌, drop, get_or, false}
use Rattle.pr_edge.specs.Named.{Named, file_in, has_name}
use Rattle.pr_edge.proofs.finding.find.Given as goal

abbrev pub invariant-loop-i : goal.invariant-loop-i
invariant-loop-i l = record {
  rest : file_in (drop l.i l.files) l.name ≡ file_in l.files l.name;
  before : (k : ℕ) (d : Named) → k < l.i → has_name l.name (get_or l.files k d) ≡ false;
}
