use Rattle.std.proofs.Common.{◌∙◌, ◌/◌, ◌%◌, false, get_or, arith}
use Rattle.pr_net.specs.Nets.{cell_reads}
use Rattle.pr_lens_fits.proofs.NeededLemmas.{any_cell}
use Rattle.pr_lens_fits.proofs.kept.note_unit.Goals as goal

pub loop-cell-preserved : goal.loop-cell-preserved
loop-cell-preserved c =
    let held = c.loop-cell.invariant in
    record {
      long = c.note_cell.auto.marks ∙ held.long;
      marks = λ k h. any_cell (cell_reads (k / 64) (k % 64)) c.args.unit.now c.loop-cell.cell-index _ (get_or c.loop-cell.marks k false) (get_or c.note_cell.new.marks k false) c.loop-cell-test.true
          (c.note_cell.ensures k (omega (arith, h, held.long))) ∙ held.marks k h;
    }
