use Rattle.std.proofs.lemmas.Result.{err_from_is_err_and}
use Rattle.pr_compile.proofs.Steps.{at_exit, front_answer, net_answer}
use Rattle.pr_lens_notes.proofs.noted.notes_of.Goals as goal

pub layout_front-requires-clause-equations : goal.layout_front-requires-clause-equations
layout_front-requires-clause-equations g c = c.in_ok-front.ensures.passed.flat

pub layout_front-requires-clause-widths : goal.layout_front-requires-clause-widths
layout_front-requires-clause-widths g c = c.in_ok-front.ensures.passed.widths.are

pub origins_of-requires-clause-equations : goal.origins_of-requires-clause-equations
origins_of-requires-clause-equations g c = c.in_ok-front.ensures.passed.flat

pub origins_of-requires-clause-widths : goal.origins_of-requires-clause-widths
origins_of-requires-clause-widths g c = c.in_ok-front.ensures.passed.widths.are

pub origins_of-requires-clause-columns : goal.origins_of-requires-clause-columns
origins_of-requires-clause-columns g c = (c.requires.columns, c.requires.most_columns)

pub returns-in_err-front-clause-refused : goal.returns-in_err-front-clause-refused
returns-in_err-front-clause-refused g c =
    let p = err_from_is_err_and c.from_residual.result c.from_residual.ensures.1 in
    at_exit g.row.N g.row.P c.args.narrowed c.args.text.now c.from_residual.result _ p (front_answer g.row.N g.row.P c.args.narrowed c.args.text.now _ c.in_err-front.ensures.refused)

pub returns-in_err-placed-clause-refused : goal.returns-in_err-placed-clause-refused
returns-in_err-placed-clause-refused g c =
    let front = c.in_ok-front.front in
    let r = c.from_residual-in_err-placed in
    let p = err_from_is_err_and r.result r.ensures.1 in
    at_exit g.row.N g.row.P c.args.narrowed c.args.text.now r.result _ p (net_answer g.row.N g.row.P c.args.narrowed c.args.text.now front.scoped.program front.widths _ c.in_ok-front.ensures.passed.widths c.in_err-placed.ensures.refused)

pub returns-clause-notes : goal.returns-clause-notes
returns-clause-notes g c =
    let front = c.in_ok-front.front in
    record {
      program = front.scoped.program;
      widths = front.widths;
      has = c.in_ok-front.ensures.passed.widths;
      placed = c.in_ok-placed.placed;
      laid_out = c.in_ok-placed.ensures.layout;
      origins = c.in_ok-origins.origins;
      told = c.in_ok-origins.ensures;
      are = c.in_ok-notes.ensures;
    }
