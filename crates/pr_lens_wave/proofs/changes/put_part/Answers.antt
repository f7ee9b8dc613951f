use Rattle.std.proofs.Common.{◌<◌, ◌≤◌, ◌⊎◌, ◌∙◌, length, arith, inl, inr, refl, sym}
use Rattle.std.proofs.lemmas.Bool.{cases_lt}
use Rattle.pr_lens_wave.specs.Scenes.{scene_of}
use Rattle.pr_lens_wave.proofs.WaveLaws.{cycles_done, cycles_more}
use Rattle.pr_lens_wave.proofs.changes.put_part.Goals as goal

pub loop-index-preserved : goal.loop-index-preserved
loop-index-preserved c =
    let cycles = c.args.cycles.now in
    let written = c.args.written.now in
    let index = c.loop-index.index in
    let test = c.loop-index-test.true in
    let less : index < length cycles = omega (arith, test, c.min-index-end.ensures) in
    let also : index < length written = omega (arith, test, c.min-index-end.ensures) in
    let step = rw (c.loop-index.invariant.same, c.saturating_add-number.ensures) at c.in_ok-put_cycle.ensures.cycle in
    record {
      rest = cycles_more c.args.teller.now.stripes c.args.first cycles written index _ _ _ (scene_of c.loop-index.text.items c.loop-index.teller) (scene_of c.put_cycle.new.text.items c.put_cycle.new.teller) less also refl refl step
          ∙ c.loop-index.invariant.rest;
      same = c.in_ok-put_cycle.ensures.stripes ∙ c.loop-index.invariant.same;
    }

pub returns : goal.returns
returns c =
    let cycles = c.args.cycles.now in
    let written = c.args.written.now in
    let index = c.loop-index.index in
    let test = c.loop-index-test.false in
    let over : (length cycles ≤ index) ⊎ (length written ≤ index) = elim (cases_lt index (length cycles)) [ inl less ↦ inr (omega (arith, test, c.min-index-end.ensures, less)) | inr least ↦ inl least ] in
    sym (cycles_done c.args.teller.now.stripes c.args.first cycles written index (scene_of c.loop-index.text.items c.loop-index.teller) over) ∙ c.loop-index.invariant.rest
