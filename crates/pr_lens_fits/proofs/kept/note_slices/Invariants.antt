use Rattle.std.proofs.Common.{◌≡◌, ◌<◌, ℕ, ◌/◌, ◌%◌, ◌||◌, false, length, drop, get_or}
use Rattle.std.specs.List.{list_any}
use Rattle.pr_net.specs.Nets.{is_slice_of}
use Rattle.pr_lens_fits.proofs.kept.note_slices.Given as goal

abbrev pub invariant-loop-slice : goal.invariant-loop-slice
invariant-loop-slice l = record {
  long : length l.marks ≡ length l.initial.marks;
  marks : (k : ℕ) → k < length l.initial.marks → (list_any (is_slice_of (k / 64) (k % 64)) (drop l.slice-index l.slices) || get_or l.marks k false) ≡ (list_any (is_slice_of (k / 64) (k % 64)) l.slices || get_or l.initial.marks k false);
}
