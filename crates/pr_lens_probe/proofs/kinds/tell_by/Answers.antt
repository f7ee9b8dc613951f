use Rattle.std.proofs.Common.{◌≡◌, ◌∙◌, ◌+◌, ◌++◌, true, List, [], length, nat_le, take, refl, ap, subst, sym, arith}
use Rattle.std.specs.List.{slice_range}
use Rattle.std.proofs.lemmas.List.{take_all}
use Rattle.pr_flat.specs.Shape.{EquationShape}
use Rattle.pr_scope_names.specs.declared.streams.Instance.{Instance}
use Rattle.pr_lens_probe.specs.Given.{HaveKinds}
use Rattle.pr_lens_probe.proofs.Answered.{can-as}
use Rattle.pr_lens_probe.proofs.Given.{equations-as, kinds-as, kinds-none}
use Rattle.pr_lens_probe.proofs.Runs.{can-part, part-long, part-more}
use Rattle.pr_lens_probe.proofs.kinds.tell_by.Goals as goal

pub parts-init : goal.parts-init
parts-init c = record {
  within = omega arith;
  items = refl;
  kinds = subst (HaveKinds c.args.program []) (sym c.new.ensures.items) (kinds-none c.args.program);
}

pub tell_more-requires-clause-able : goal.tell_more-requires-clause-able
tell_more-requires-clause-able c =
    let p = c.args.program in
    let end = c.min-end.result in
    can-as p c.parts.told.program (sym c.parts.invariant.items) c.args.most (slice_range c.args.instances.now c.parts.at end)
    (can-part p c.args.most c.args.size c.parts.at end c.args.instances.now (omega (arith, c.parts-test.true, c.min-end.ensures)) (omega (arith, c.min-end.ensures)) c.requires.able)

pub tell_more-requires-clause-room : goal.tell_more-requires-clause-room
tell_more-requires-clause-room c = subst (λ (es : List EquationShape). nat_le (length es + 2) 16384 ≡ true) (equations-as c.args.program c.parts.told.program (sym c.parts.invariant.items)) c.requires.room

pub tell_more-requires-clause-few : goal.tell_more-requires-clause-few
tell_more-requires-clause-few c =
    let end = c.min-end.result in
    let long = part-long c.args.instances.now c.parts.at end c.args.size (omega (arith, c.min-end.ensures)) in
    let same = ap (λ (es : List EquationShape). length es) (equations-as c.args.program c.parts.told.program (sym c.parts.invariant.items)) in
    omega (arith, long, same, c.requires.few)

pub parts-preserved : goal.parts-preserved
parts-preserved c =
    let p = c.args.program in
    let q = c.parts.told.program in
    let same = c.parts.invariant.items in
    let is = c.args.instances.now in
    let at = c.parts.at in
    let end = c.min-end.result in
    let before = take at is in
    let part = slice_range is at end in
    let told = c.in_ok-told.told.kinds.items in
    record {
      within = omega (arith, c.min-end.ensures);
      items = c.in_ok-told.ensures.items ∙ same;
      kinds = subst (λ (l : List Instance). HaveKinds p l told) (part-more is at end (omega (arith, c.parts-test.true, c.min-end.ensures)))
          (kinds-as q p same (before ++ part) told (c.in_ok-told.ensures.kinds before (kinds-as p q (sym same) before c.parts.told.kinds.items c.parts.invariant.kinds)));
    }

pub returns-clause-kinds : goal.returns-clause-kinds
returns-clause-kinds c = subst (λ (l : List Instance). HaveKinds c.args.program l c.parts.told.kinds.items) (take_all c.parts.at c.args.instances.now c.parts-test.false) c.parts.invariant.kinds
