use Rattle.std.proofs.Common.{arith, rules}
use Rattle.std.proofs.lemmas.Result.{err_from_is_err_and}
use Rattle.pr_compile.proofs.Steps.{front_answer, net_answer, at_exit}
use Rattle.pr_lens_cost.proofs.CostLemmas.{cost_is}
use Rattle.pr_lens_cost.proofs.costs.cost_of.Goals as goal

pub compile_front-requires : goal.compile_front-requires
compile_front-requires g c =
    let passed = c.in_ok-front.ensures.passed in
    (omega arith, (passed.flat, (passed.widths.are, (c.requires.columns, (c.requires.most_columns, (c.requires.registers, c.requires.most_registers))))))

pub most_shares-requires-clause-equations : goal.most_shares-requires-clause-equations
most_shares-requires-clause-equations g c = c.in_ok-front.ensures.passed.flat

pub most_shares-requires-clause-widths : goal.most_shares-requires-clause-widths
most_shares-requires-clause-widths g c = c.in_ok-front.ensures.passed.widths.are

pub most_shares-requires-clause-columns : goal.most_shares-requires-clause-columns
most_shares-requires-clause-columns g c = (c.requires.columns, c.requires.most_columns)

pub returns-in_err-front-clause-refused : goal.returns-in_err-front-clause-refused
returns-in_err-front-clause-refused g c =
    let p = err_from_is_err_and c.from_residual.result c.from_residual.ensures.1 in
    at_exit g.row.N g.row.P c.args.narrowed c.args.text.now c.from_residual.result _ p (front_answer g.row.N g.row.P c.args.narrowed c.args.text.now _ c.in_err-front.ensures.refused)

pub returns-in_err-compiled-clause-refused : goal.returns-in_err-compiled-clause-refused
returns-in_err-compiled-clause-refused g c =
    let front = c.in_ok-front.front in
    let r = c.from_residual-in_err-compiled in
    let p = err_from_is_err_and r.result r.ensures.1 in
    at_exit g.row.N g.row.P c.args.narrowed c.args.text.now r.result _ p (net_answer g.row.N g.row.P c.args.narrowed c.args.text.now front.scoped.program front.widths _ c.in_ok-front.ensures.passed.widths c.in_err-compiled.ensures.refused)

pub returns-clause-cost : goal.returns-clause-cost
returns-clause-cost g c =
    let compiled = c.in_ok-compiled.compiled in
    cost_is g.row.N g.row.P c.args.narrowed c.args.text.now c.in_ok-front.front compiled.conf c.deref.result.now _ c.in_ok-front.ensures.passed c.in_ok-compiled.ensures.configured c.in_ok-compiled.ensures.units (search rules) c.in_ok-shares.ensures c.in_ok-spots.ensures c.deref.ensures.value c.in_ok-stages.ensures
