use Rattle.std.proofs.Common.{drop}
use Rattle.std.specs.List.{list_any}
use Rattle.pr_net.specs.Nets.{cell_reads, is_output}
use Rattle.pr_net.specs.Whole.{shape_of}
use Rattle.pr_lens_fits.proofs.NeededLemmas.{marks_both}
use Rattle.pr_lens_fits.proofs.kept.note_needed.Goals as goal

pub returns : goal.returns
returns c =
    let net = c.args.net.now in
    marks_both c.args.marks.now c.note_outputs.new.marks c.note_units.new.marks (λ v j. is_output (shape_of net) v j)
    (λ v j. list_any (list_any (cell_reads v j)) (drop c.args.unit net.units.items)) c.note_outputs.auto.marks (rw c.deref.ensures.value at c.note_outputs.ensures) (rw c.from_unit.ensures at c.note_units.ensures)
