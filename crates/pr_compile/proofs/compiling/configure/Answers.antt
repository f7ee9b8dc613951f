use Rattle.std.proofs.Common.{arith, Err, ap}
use Rattle.std.proofs.lemmas.Result.{err_from_is_err_and}
use Rattle.pr_compile.proofs.Steps.{cut_lawful, cut_answer, at_net_exit}
use Rattle.pr_compile.proofs.compiling.configure.Goals as goal

pub place-requires-clause-net : goal.place-requires-clause-net
place-requires-clause-net g c = cut_lawful _ _ _ _ _ c.args.flat.now.lawful c.requires.widths c.in_ok-net.ensures.net c.in_ok-net.ensures.within

pub route-requires : goal.route-requires
route-requires g c =
    let net = cut_lawful _ _ _ _ _ c.args.flat.now.lawful c.requires.widths c.in_ok-net.ensures.net c.in_ok-net.ensures.within in
    (omega arith, (net, (c.in_ok-placement.ensures.greedy, (c.requires.columns, (c.requires.most_columns, (c.requires.registers, c.requires.most_registers))))))

pub returns-in_err-net-clause-refused : goal.returns-in_err-net-clause-refused
returns-in_err-net-clause-refused g c =
    let p = err_from_is_err_and c.from_residual.result c.from_residual.ensures.1 in
    at_net_exit g.row.N g.row.P _ c.from_residual.result _ p (cut_answer g.row.N g.row.P _ _ (λ cap e. c.in_err-net.ensures.refused cap (ap Err e)))
