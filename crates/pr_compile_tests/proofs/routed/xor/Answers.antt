use Rattle.std.proofs.Common.{sym, subst, arith}
use Rattle.pr_net.specs.Whole.{shape_of as net_shape}
use Rattle.pr_net.specs.Shape.{NetShape}
use Rattle.pr_net.specs.Nets.{IsNet}
use Rattle.pr_place.specs.Placements.{shape_of}
use Rattle.pr_place.specs.Greedy.{IsGreedy}
use Rattle.pr_compile_tests.specs.Nets.{xor_net}
use Rattle.pr_compile_tests.proofs.Placed.{xor_lawful, xor_placed}
use Rattle.pr_compile_tests.proofs.routed.xor.Goals as goal

pub route-requires : goal.route-requires
route-requires c =
    let net : IsNet 16 (net_shape c.in_ok-net.net) = subst (IsNet 16) (sym c.in_ok-net.ensures) xor_lawful in
    let here : IsGreedy 16 8 xor_net (shape_of c.in_ok-placement.placement) = subst (IsGreedy 16 8 xor_net) (sym c.in_ok-placement.ensures) xor_placed in
    let placed : IsGreedy 16 8 (net_shape c.in_ok-net.net) (shape_of c.in_ok-placement.placement) = subst (λ (n : NetShape). IsGreedy 16 8 n (shape_of c.in_ok-placement.placement)) (sym c.in_ok-net.ensures) here in
    (omega arith, (net, (placed, (omega arith, (omega arith, (omega arith, omega arith))))))
