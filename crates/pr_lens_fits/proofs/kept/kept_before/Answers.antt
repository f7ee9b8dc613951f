use Rattle.std.proofs.Common.{◌≡◌, ◌∙◌, ◌*◌, false, replicate, arith}
use Rattle.pr_net.specs.Whole.{shape_of}
use Rattle.pr_lens_fits.proofs.NeededLemmas.{kept_marked}
use Rattle.pr_lens_fits.proofs.kept.kept_before.Goals as goal

pub returns : goal.returns
returns c =
    let olds = c.in_ok-marks.marks.items in
    let blank : olds ≡ replicate (64 * c.args.unit) false = c.in_ok-marks.ensures.items_if_clones_equal (λ y e. e) in
    c.count.ensures
    ∙ kept_marked (shape_of c.args.net.now) c.args.unit c.in_ok-marks.marks.len olds c.deref_mut.result.now c.note_needed.new.marks c.deref.result.now blank c.deref_mut.ensures.value c.note_needed.auto.marks
    (omega (arith, c.deref_mut.ensures.len, c.in_ok-marks.ensures.len)) c.note_needed.ensures c.deref.ensures.value
