use Rattle.std.proofs.Common.{List, sym, subst}
use Rattle.std.proofs.lemmas.Result.{IfErr-weaker, IfOk-weaker}
use Rattle.pr_flat.specs.Shape.{EquationShape}
use Rattle.pr_flat.specs.Widths.{AreWidths}
use Rattle.pr_expand_correct.proofs.AgreedPrograms.{widths-needed}
use Rattle.pr_lens_shares.proofs.TallyLemmas.{few_equations, limit_told, tally_told, unshown_told}
use Rattle.pr_lens_shares.proofs.tallies.tally_of.Goals as goal

pub ready_of-requires : goal.ready_of-requires
ready_of-requires c = subst (λ (es : List EquationShape). AreWidths es c.args.front.widths) (sym c.requires.equations.equations) c.requires.widths

pub shown-requires-clause-widths : goal.shown-requires-clause-widths
shown-requires-clause-widths c = widths-needed c.args.front.scoped.program c.args.front.widths c.args.front.scoped.lawful c.requires.widths

pub shown-requires-clause-few : goal.shown-requires-clause-few
shown-requires-clause-few c = few_equations c.args.front.scoped.program c.args.front.flat c.requires.equations c.args.front.flat.lawful

pub returns-in-Ok-clause-tally : goal.returns-in-Ok-clause-tally
returns-in-Ok-clause-tally c =
    let front = c.args.front in
    let made = c.in_ok-ready in
    IfOk-weaker c.tally_in.result _ _ (λ tally is. tally_told c.args.narrowed front.scoped.program front.flat front.widths made.ready made.news c.requires.equations c.requires.widths made.ensures.narrowed made.ensures.whole made.ensures.outputs c.in-Ok.probed tally c.in-Ok.ensures.shows is) c.tally_in.ensures.tally

pub returns-in-Ok-clause-refused : goal.returns-in-Ok-clause-refused
returns-in-Ok-clause-refused c =
    let front = c.args.front in
    let made = c.in_ok-ready in
    IfErr-weaker c.tally_in.result _ _ (λ fault is. limit_told c.args.narrowed front.scoped.program front.flat front.widths made.ready made.news c.requires.equations c.requires.widths made.ensures.narrowed made.ensures.whole made.ensures.outputs c.args.columns fault is) c.tally_in.ensures.refused

pub returns-in-Err-clause-refused : goal.returns-in-Err-clause-refused
returns-in-Err-clause-refused c = unshown_told c.args.columns c.args.narrowed c.args.front.scoped.program c.args.front.widths c.in-Err.fault c.in-Err.ensures.refused
