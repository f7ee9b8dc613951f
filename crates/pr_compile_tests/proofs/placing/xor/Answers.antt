use Rattle.std.proofs.Common.{sym, subst}
use Rattle.pr_net.specs.Nets.{IsNet}
use Rattle.pr_compile_tests.proofs.Placed.{xor_lawful}
use Rattle.pr_compile_tests.proofs.placing.xor.Goals as goal

pub place-requires-clause-net : goal.place-requires-clause-net
place-requires-clause-net c = subst (IsNet 16) (sym c.in_ok-net.ensures) xor_lawful
