use Rattle.std.proofs.Common.{◌≡◌, ◌<◌, ℕ, ◌/◌, ◌%◌, ◌||◌, false, length, drop, get_or}
use Rattle.std.specs.List.{list_any}
use Rattle.pr_net.specs.Nets.{cell_reads}
use Rattle.pr_lens_fits.proofs.kept.note_unit.Given as goal

abbrev pub invariant-loop-cell : goal.invariant-loop-cell
invariant-loop-cell l = record {
  long : length l.marks ≡ length l.initial.marks;
  marks : (k : ℕ) → k < length l.initial.marks → (list_any (cell_reads (k / 64) (k % 64)) (drop l.cell-index l.unit) || get_or l.marks k false) ≡ (list_any (cell_reads (k / 64) (k % 64)) l.unit || get_or l.initial.marks k false);
}
