use Rattle.std.proofs.Common.{sym, subst, List}
use Rattle.pr_flat.specs.Shape.{EquationShape}
use Rattle.pr_flat.specs.Widths.{AreWidths}
use Rattle.pr_lens_fits.proofs.UnfitLemmas.{ready_told}
use Rattle.pr_lens_fits.proofs.ready.ready_in.Goals as goal

pub ready_of-requires : goal.ready_of-requires
ready_of-requires c =
    let front = c.in-Some.front in
    let passed = rw c.in-Some.is at c.in_ok-front.ensures.passed in
    subst (λ (es : List EquationShape). AreWidths es front.widths) (sym passed.flat.equations) passed.widths.are

pub returns-clause-told : goal.returns-clause-told
returns-clause-told c =
    let front = c.in-Some.front in
    let passed = rw c.in-Some.is at c.in_ok-front.ensures.passed in
    let made = c.in_ok-made in
    record {
      program = front.scoped.program;
      given = front.widths;
      has = passed.widths;
      are = ready_told c.args.narrowed front.scoped.program front.flat front.widths made.made.0 made.made.1 passed.flat passed.widths.are made.ensures.narrowed made.ensures.whole made.ensures.outputs;
    }
