use Rattle.std.proofs.Common.{arith}
use Rattle.std.proofs.lemmas.Result.{err_from_is_err_and}
use Rattle.pr_compile.proofs.Steps.{front_answer, net_answer, at_exit}
use Rattle.pr_compile.proofs.compiling.compile_counted.Goals as goal

pub compile_front-requires : goal.compile_front-requires
compile_front-requires g c =
    let passed = c.in_ok-front.ensures.passed in
    (omega arith, (passed.flat, (passed.widths.are, (c.requires.columns, (c.requires.most_columns, (c.requires.registers, c.requires.most_registers))))))

pub returns-in_err-front-clause-refused : goal.returns-in_err-front-clause-refused
returns-in_err-front-clause-refused g c =
    let p = err_from_is_err_and c.from_residual.result c.from_residual.ensures.1 in
    at_exit g.row.N g.row.P c.args.narrowed c.args.text.now c.from_residual.result _ p (front_answer g.row.N g.row.P c.args.narrowed c.args.text.now _ c.in_err-front.ensures.refused)

pub returns-in_err-compiled-clause-refused : goal.returns-in_err-compiled-clause-refused
returns-in_err-compiled-clause-refused g c =
    let p = err_from_is_err_and c.from_residual-in_err-compiled.result c.from_residual-in_err-compiled.ensures.1 in
    let front = c.in_ok-front.front in
    at_exit g.row.N g.row.P c.args.narrowed c.args.text.now c.from_residual-in_err-compiled.result _ p (net_answer g.row.N g.row.P c.args.narrowed c.args.text.now front.scoped.program front.widths _ c.in_ok-front.ensures.passed.widths c.in_err-compiled.ensures.refused)
