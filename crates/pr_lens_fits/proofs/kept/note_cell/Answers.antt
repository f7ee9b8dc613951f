use Rattle.std.proofs.Common.{◌∙◌, ◌||◌}
use Rattle.pr_net.specs.Nets.{is_wire_of, is_bit_of}
use Rattle.pr_lens_fits.proofs.NeededLemmas.{marks_both}
use Rattle.pr_lens_fits.proofs.kept.note_cell.Goals as goal

pub returns : goal.returns
returns c =
    let cell = c.args.cell.now in
    let old = c.args.marks.now in
    let one = marks_both old c.note_bit.new.marks c.note_wire.new.marks (λ v j. is_bit_of v j cell.c) (λ v j. is_wire_of v j cell.lo) c.note_bit.auto.marks c.note_bit.ensures c.note_wire.ensures in
    let two = marks_both old c.note_wire.new.marks c.note_wire-2.new.marks (λ v j. is_wire_of v j cell.lo || is_bit_of v j cell.c) (λ v j. is_wire_of v j cell.hi) (c.note_wire.auto.marks ∙ c.note_bit.auto.marks) one c.note_wire-2.ensures in
    marks_both old c.note_wire-2.new.marks c.note_wire-3.new.marks (λ v j. is_wire_of v j cell.hi || (is_wire_of v j cell.lo || is_bit_of v j cell.c)) (λ v j. is_wire_of v j cell.a) (c.note_wire-2.auto.marks ∙ (c.note_wire.auto.marks ∙ c.note_bit.auto.marks)) two c.note_wire-3.ensures
