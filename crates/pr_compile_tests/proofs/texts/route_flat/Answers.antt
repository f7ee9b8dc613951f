use Rattle.std.proofs.Common.{arith}
use Rattle.pr_compile_tests.proofs.Lawful.{cut_lawful}
use Rattle.pr_compile_tests.proofs.texts.route_flat.Goals as goal

pub place-requires-clause-net : goal.place-requires-clause-net
place-requires-clause-net g c = cut_lawful _ _ _ _ _ c.args.flat.now.lawful c.requires.widths c.in_ok-net.ensures.net c.in_ok-net.ensures.within

pub route-requires : goal.route-requires
route-requires g c =
    let net = cut_lawful _ _ _ _ _ c.args.flat.now.lawful c.requires.widths c.in_ok-net.ensures.net c.in_ok-net.ensures.within in
    (omega arith, (net, (c.in_ok-placement.ensures.greedy, (c.requires.columns, (c.requires.most_columns, (c.requires.registers, c.requires.most_registers))))))
