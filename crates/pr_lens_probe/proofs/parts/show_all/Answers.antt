use Rattle.std.proofs.Common.{◌∙◌, ◌++◌, ◌≤◌, List, [], length, take, refl, subst, sym, arith}
use Rattle.std.specs.List.{slice_range}
use Rattle.std.proofs.lemmas.List.{take_all}
use Rattle.pr_flat.specs.Shape.{EquationShape}
use Rattle.pr_scope_names.specs.declared.streams.Instance.{Instance}
use Rattle.pr_lens_probe.specs.Given.{AreGiven}
use Rattle.pr_lens_probe.proofs.Answered.{can-as}
use Rattle.pr_lens_probe.proofs.Given.{equations-as, given-as}
use Rattle.pr_lens_probe.proofs.Runs.{can-part, given-none, part-more}
use Rattle.pr_lens_probe.proofs.parts.show_all.Goals as goal

pub parts-init : goal.parts-init
parts-init c =
    let p = c.args.program in
    record {
      within = omega arith;
      items = refl;
      given = subst (AreGiven p []) (sym c.new.ensures.items) (given-none p c.requires.able.lawful c.requires.able.widths (omega (arith, c.requires.able.turns)));
    }

pub show_more-requires-clause-able : goal.show_more-requires-clause-able
show_more-requires-clause-able c =
    let p = c.args.program in
    let end = c.min-end.result in
    can-as p c.parts.shown.program (sym c.parts.invariant.items) c.args.most (slice_range c.args.instances.now c.parts.at end)
    (can-part p c.args.most c.args.size c.parts.at end c.args.instances.now (omega (arith, c.parts-test.true, c.min-end.ensures)) (omega (arith, c.min-end.ensures)) c.requires.able)

pub show_more-requires-clause-few : goal.show_more-requires-clause-few
show_more-requires-clause-few c = subst (λ (es : List EquationShape). length es ≤ 16384) (equations-as c.args.program c.parts.shown.program (sym c.parts.invariant.items)) c.requires.able.few

pub parts-preserved : goal.parts-preserved
parts-preserved c =
    let p = c.args.program in
    let q = c.parts.shown.program in
    let same = c.parts.invariant.items in
    let is = c.args.instances.now in
    let at = c.parts.at in
    let end = c.min-end.result in
    let before = take at is in
    let part = slice_range is at end in
    let shown = c.in_ok-shown.shown.operands.items in
    record {
      within = omega (arith, c.min-end.ensures);
      items = c.in_ok-shown.ensures.items ∙ same;
      given = subst (λ (l : List Instance). AreGiven p l shown) (part-more is at end (omega (arith, c.parts-test.true, c.min-end.ensures)))
          (given-as q p same (before ++ part) shown (c.in_ok-shown.ensures.given before (given-as p q (sym same) before c.parts.shown.operands.items c.parts.invariant.given)));
    }

pub returns-clause-given : goal.returns-clause-given
returns-clause-given c = subst (λ (l : List Instance). AreGiven c.args.program l c.parts.shown.operands.items) (take_all c.parts.at c.args.instances.now c.parts-test.false) c.parts.invariant.given
