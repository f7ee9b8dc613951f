use Rattle.std.proofs.Common.{◌∙◌, ◌/◌, ◌%◌, false, get_or, arith}
use Rattle.pr_net.specs.Nets.{is_slice_of}
use Rattle.pr_lens_fits.proofs.NeededLemmas.{any_slice}
use Rattle.pr_lens_fits.proofs.kept.note_slices.Goals as goal

pub loop-slice-preserved : goal.loop-slice-preserved
loop-slice-preserved c =
    let held = c.loop-slice.invariant in
    record {
      long = c.note_slice.auto.marks ∙ held.long;
      marks = λ k h. any_slice (is_slice_of (k / 64) (k % 64)) c.args.slices.now c.loop-slice.slice-index _ (get_or c.loop-slice.marks k false) (get_or c.note_slice.new.marks k false) c.loop-slice-test.true
          (c.note_slice.ensures k (omega (arith, h, held.long))) ∙ held.marks k h;
    }
