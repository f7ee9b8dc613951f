use Rattle.std.proofs.Common.{◌≡◌, ◌<◌, ◌≤◌, ℕ, None, length, slice_index_or}
use Rattle.pr_lens_notes.proofs.tables.fill.Given as goal

abbrev pub invariant-loop-at : goal.invariant-loop-at
invariant-loop-at l = record {
  long : length l.owners.items ≡ length l.fn.owners.items;
  before : (k : ℕ) → k < l.from → slice_index_or l.owners.items k None ≡ slice_index_or l.fn.owners.items k None;
  inside : (k : ℕ) → l.from ≤ k → k < l.at → slice_index_or l.owners.items k None ≡ l.owner;
  behind : (k : ℕ) → l.at ≤ k → slice_index_or l.owners.items k None ≡ slice_index_or l.fn.owners.items k None;
}
