use Rattle.std.proofs.Common.{arith, map, refl}
use Rattle.std.proofs.lemmas.Result.{err_from_is_err_and}
use Rattle.pr_conf.specs.Configuration.{pes_of}
use Rattle.pr_lens_rtl.specs.Module.{pes_wires, stages_wires}
use Rattle.pr_lens_rtl_text.specs.declared.lines.Way.{Way}
use Rattle.pr_lens_rtl_text.specs.Notes.{note_of}
use Rattle.pr_lens_rtl_text.specs.Printed.{kept_text}
use Rattle.pr_lens_rtl_text.proofs.LimitLemmas.{at_fault, front_within}
use Rattle.pr_lens_rtl_text.proofs.StageTexts.{wires_walk}
use Rattle.pr_lens_rtl_terms.proofs.WalkLemmas.{walk_done, walk_more}
use Rattle.pr_lens_rtl_text.proofs.whole.put_stages.Goals as goal

pub loop-number-preserved : goal.loop-number-preserved
loop-number-preserved g c =
    rw (c.in_ok-put_short.ensures.text, c.deref.ensures.value, c.in_ok-lines.ensures, c.as_slice-pes.ensures.value)
    (walk_more (λ i xs. kept_text (note_of c.args.notes.now c.args.marks.now) Way.Wire c.args.marks.now (stages_wires g.row.N i (map pes_of xs))) (λ i x. kept_text (note_of c.args.notes.now c.args.marks.now) Way.Wire c.args.marks.now (pes_wires g.row.N i 0 (pes_of x)))
    (wires_walk (note_of c.args.notes.now c.args.marks.now) Way.Wire c.args.marks.now g.row.N g.row.N)
    c.loop-number.text.items _ c.args.stages.now c.loop-number.number _ c.index-stages-number.result c.loop-number-test.true refl c.loop-number.invariant)

pub returns-in_err-put_short-clause-refused : goal.returns-in_err-put_short-clause-refused
returns-in_err-put_short-clause-refused g c =
    let r = c.from_residual-in_err-put_short in
    at_fault r.result _ _ _ (err_from_is_err_and r.result r.ensures.1)
    (front_within _ _ _ (walk_more (λ i xs. kept_text (note_of c.args.notes.now c.args.marks.now) Way.Wire c.args.marks.now (stages_wires g.row.N i (map pes_of xs))) (λ i x. kept_text (note_of c.args.notes.now c.args.marks.now) Way.Wire c.args.marks.now (pes_wires g.row.N i 0 (pes_of x)))
    (wires_walk (note_of c.args.notes.now c.args.marks.now) Way.Wire c.args.marks.now g.row.N g.row.N)
    c.loop-number.text.items _ c.args.stages.now c.loop-number.number _ c.index-stages-number.result c.loop-number-test.true refl c.loop-number.invariant))
    (rw (c.deref.ensures.value, c.in_ok-lines.ensures, c.as_slice-pes.ensures.value) at c.in_err-put_short.ensures.refused)

pub returns-clause-text : goal.returns-clause-text
returns-clause-text g c =
    walk_done (λ i xs. kept_text (note_of c.args.notes.now c.args.marks.now) Way.Wire c.args.marks.now (stages_wires g.row.N i (map pes_of xs))) (λ i x. kept_text (note_of c.args.notes.now c.args.marks.now) Way.Wire c.args.marks.now (pes_wires g.row.N i 0 (pes_of x)))
    (wires_walk (note_of c.args.notes.now c.args.marks.now) Way.Wire c.args.marks.now g.row.N g.row.N)
    c.loop-number.text.items _ c.args.stages.now c.loop-number.number (omega arith) c.loop-number.invariant
