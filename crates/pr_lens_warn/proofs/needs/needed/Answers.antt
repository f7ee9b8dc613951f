use Rattle.std.proofs.Common.{◌≡◌, ◌∙◌, length, arith}
use Rattle.pr_lens_warn.proofs.NeedLemmas.{are_needed, first_sound, written_back}
use Rattle.pr_lens_warn.proofs.needs.needed.Goals as goal

pub mark_all-requires-clause-sound : goal.mark_all-requires-clause-sound
mark_all-requires-clause-sound c =
    let source = c.args.source.now in
    first_sound source.text.now source.tokens.now source.spans.now c.deref_mut.result.now c.deref_mut.result.now (c.deref_mut.ensures.value ∙ c.in_ok-marks.ensures)

pub returns : goal.returns
returns c =
    let source = c.args.source.now in
    let news = c.mark_all.new.marks in
    let marks = c.in_ok-marks.marks in
    let long : length news ≡ length c.deref_mut.result.now = c.mark_all.auto.marks in
    let whole : marks.len ≡ length news = omega (arith, long, c.deref_mut.ensures.len) in
    are_needed source.text.now source.tokens.now source.spans.now c.deref_mut.result.now news (c.deref_mut.ensures.value ∙ c.in_ok-marks.ensures) c.mark_all.ensures.kept c.mark_all.ensures.settled _ long c.mark_all.ensures.sound
    (written_back marks.len marks.items news whole)
