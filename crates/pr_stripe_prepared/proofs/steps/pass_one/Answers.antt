use Rattle.std.proofs.Common.{◌≡◌, ◌==◌, ℕ, Bool, true, false, map, length, get_or, nat_lt, refl, sym, ap, ◌∙◌, arith, if◌then◌else◌}
use Rattle.std.proofs.lemmas.List.{length-map, get_or-map}
use Rattle.pr_lanes.specs.Rows.{pick, row_by}
use Rattle.pr_conf.specs.declared.pes.Pe.{Pe}
use Rattle.pr_stripe_columns.proofs.StepLaws.{any_pe}
use Rattle.pr_stripe_columns.proofs.PassLaws.{picked_is_passed}
use Rattle.pr_lanes.proofs.LaneLaws.{as_row, same_lanes}
use Rattle.pr_stripe_prepared.proofs.steps.pass_one.Goals as goal

-- a mark is above 127 or 0
picked_high : (t : Bool) (mark fresh old : ℕ) → mark ≡ (if t then 255 else 0) → (if nat_lt 127 mark then fresh else old) ≡ pick mark fresh old
picked_high true mark fresh old e = rw e refl
picked_high false mark fresh old e = rw e refl

pub returns : goal.returns
returns c = λ reg pes made long marks o.
    let before = c.args.before.now in
    let output = c.args.output.now in
    let by = c.args.marks.now in
    let writes = map (λ (pe : Pe). pe.write) pes in
    let lw : length writes ≡ 16 = length-map pes (λ (pe : Pe). pe.write) ∙ long in
    let f = λ (k : ℕ). pick (get_or by k 0) (get_or output k 0) (get_or before k 0) in
    let lanes = same_lanes 16 c.blended.result _ f c.blended.ensures (λ k l.
    ap (λ xs. if nat_lt 127 (get_or xs k 0) then get_or c.loaded-fresh.result k 0 else get_or c.loaded-old.result k 0) c.loaded-by.ensures.is
    ∙ ap (λ xs. if nat_lt 127 (get_or by k 0) then get_or xs k 0 else get_or c.loaded-old.result k 0) c.loaded-fresh.ensures.is
    ∙ ap (λ xs. if nat_lt 127 (get_or by k 0) then get_or output k 0 else get_or xs k 0) c.loaded-old.ensures.is
    ∙ picked_high ((get_or pes k any_pe).write == reg) (get_or by k 0) (get_or output k 0) (get_or before k 0) (marks k any_pe l)) in
    let is = c.store.ensures ∙ as_row 16 c.blended.result f lanes ∙ ap (λ n. row_by n f) (sym c.requires.marks) in
    picked_is_passed reg pes made c.store.new.into before output writes by
    (omega arith) (omega arith) (omega arith)
    (λ i h. marks i any_pe (omega arith) ∙ ap (λ w. if w == reg then 255 else 0) (sym (get_or-map (λ (pe : Pe). pe.write) pes i any_pe 0 (omega arith))))
    refl o is
