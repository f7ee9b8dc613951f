use Rattle.std.proofs.Common.{◌≡◌, ◌<◌, ℕ, ◌/◌, ◌%◌, ◌||◌, false, length, drop, get_or}
use Rattle.std.specs.List.{list_any}
use Rattle.pr_net.specs.Nets.{is_slice_of}
use Rattle.pr_net.specs.Shape.{OutputShape}
use Rattle.pr_lens_fits.proofs.kept.note_outputs.Given as goal

abbrev pub invariant-loop-output : goal.invariant-loop-output
invariant-loop-output l = record {
  long : length l.marks ≡ length l.initial.marks;
  marks : (k : ℕ) → k < length l.initial.marks → (list_any (λ (o : OutputShape). list_any (is_slice_of (k / 64) (k % 64)) o.slices) (drop l.output-index l.outputs) || get_or l.marks k false) ≡ (list_any (λ (o : OutputShape). list_any (is_slice_of (k / 64) (k % 64)) o.slices) l.outputs || get_or l.initial.marks k false);
}
