use Rattle.std.proofs.Common.{arith}
use Rattle.std.proofs.lemmas.Result.{err_from_is_err_and}
use Rattle.pr_compile.proofs.Steps.{front_answer, net_answer, at_exit}
use Rattle.pr_lens_tool.proofs.ModuleLemmas.{compilation_is}
use Rattle.pr_lens_tool.proofs.compiling.compilation_of.Goals as goal

pub compile_front-requires : goal.compile_front-requires
compile_front-requires g c =
    let passed = c.in_ok-front.ensures.passed in
    (omega arith, (passed.flat, (passed.widths.are, (c.requires.columns, (c.requires.most_columns, (c.requires.registers, c.requires.most_registers))))))

pub returns-in_err-front-clause-refused : goal.returns-in_err-front-clause-refused
returns-in_err-front-clause-refused g c =
    let p = err_from_is_err_and c.from_residual.result c.from_residual.ensures.1 in
    at_exit g.row.N g.row.P c.args.narrowed c.args.text.now c.from_residual.result _ p (front_answer g.row.N g.row.P c.args.narrowed c.args.text.now _ c.in_err-front.ensures.refused)

pub returns-in_err-compiled-clause-refused : goal.returns-in_err-compiled-clause-refused
returns-in_err-compiled-clause-refused g c =
    let front = c.in_ok-front.front in
    let r = c.from_residual-in_err-compiled in
    let p = err_from_is_err_and r.result r.ensures.1 in
    at_exit g.row.N g.row.P c.args.narrowed c.args.text.now r.result _ p (net_answer g.row.N g.row.P c.args.narrowed c.args.text.now front.scoped.program front.widths _ c.in_ok-front.ensures.passed.widths c.in_err-compiled.ensures.refused)

pub returns-clause-compiled : goal.returns-clause-compiled
returns-clause-compiled g c =
    compilation_is g.row.N g.row.P c.args.narrowed c.args.text.now c.in_ok-front.front.scoped.program c.in_ok-front.front.widths _ c.in_ok-front.ensures.passed.widths c.in_ok-compiled.ensures.configured
