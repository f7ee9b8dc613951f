use Rattle.std.proofs.Common.{◌≡◌, ◌*◌, ◌∙◌, false, length, replicate, ap, arith}
use Rattle.std.proofs.lemmas.List.{length-map}
use Rattle.pr_conf.specs.Configuration.{pes_of, shape_of}
use Rattle.pr_lens_rtl.specs.Module.{last_of, tap_wires, taps_of}
use Rattle.pr_lens_rtl.specs.Kept.{marks_of, needed, stages_needed}
use Rattle.pr_lens_rtl_terms.proofs.MarkLemmas.{take_written}
use Rattle.pr_lens_rtl_terms.proofs.marks.marks_of.Goals as goal

pub returns : goal.returns
unfolding marks_of
returns g c =
    let shape = shape_of c.args.conf.now in
    let stages = c.args.conf.now.stages in
    let many : c.len.result ≡ length shape.stages = omega (arith, c.len.ensures, length-map stages.items pes_of, stages.ok.0) in
    take_written c.in_ok-marks.marks.len c.mark_all.new.marks _ (omega (arith, c.mark_all.auto.marks, c.deref_mut.ensures.len))
    ∙ c.in_ok-mark_all.ensures
    ∙ ap (λ m. stages_needed g.row.N g.row.P 0 shape.stages (needed (tap_wires g.row.N (last_of shape) 0 (taps_of shape)) m)) (c.deref_mut.ensures.value ∙ (c.in_ok-marks.ensures.items_if_clones_equal (λ y e. e) ∙ ap (λ n. replicate (n * 2048) false) many))
