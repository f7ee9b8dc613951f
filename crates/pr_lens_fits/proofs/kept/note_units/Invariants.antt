use Rattle.std.proofs.Common.{◌≡◌, ◌<◌, ℕ, ◌/◌, ◌%◌, ◌||◌, false, length, drop, get_or}
use Rattle.std.specs.List.{list_any}
use Rattle.pr_net.specs.Nets.{cell_reads}
use Rattle.pr_lens_fits.proofs.kept.note_units.Given as goal

abbrev pub invariant-loop-unit : goal.invariant-loop-unit
invariant-loop-unit l = record {
  long : length l.marks ≡ length l.initial.marks;
  marks : (k : ℕ) → k < length l.initial.marks → (list_any (list_any (cell_reads (k / 64) (k % 64))) (drop l.unit-index l.units) || get_or l.marks k false) ≡ (list_any (list_any (cell_reads (k / 64) (k % 64))) l.units || get_or l.initial.marks k false);
}
