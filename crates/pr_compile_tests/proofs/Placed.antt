-- The net is lawful, and placed by the greedy rule, computed.
use Rattle.std.proofs.Common.{◌≡◌, ℕ, zero, suc, ◌<◌, [], ◌∷◌, true, length, refl, sym, ap, ◌∙◌, arith}
use Rattle.pr_net.specs.Nets.{IsNet}
use Rattle.pr_place.specs.Greedy.{Seat, IsGreedy, placed_after, all_placed, homes_in}
use Rattle.pr_compile_tests.specs.Nets.{xor_net, xor_placement}
use Rattle.pr_compile_tests.proofs.Decided.{net_from}

pub xor_lawful : IsNet 16 xor_net
unfolding xor_net
xor_lawful = net_from 16 xor_net (record { heads = refl; cells = refl; grouped = refl; members = refl; some = refl; ascending = refl; inputs = refl; bare = refl; widths = refl; outputs = refl; sizes = refl; counts = refl })

seat : ℕ → ℕ → ℕ → ℕ → Seat
seat unit stage col reg = record { group = unit; unit = unit; place = 0; stage = stage; col = col; reg = reg }

xor_inputs : placed_after 16 8 xor_net 1 ≡ seat 0 0 0 1 ∷ seat 1 0 1 1 ∷ []
unfolding xor_net placed_after seat
xor_inputs = refl

xor_seats : placed_after 16 8 xor_net 2 ≡ seat 0 0 0 1 ∷ seat 1 0 1 1 ∷ seat 2 1 0 2 ∷ []
unfolding xor_net placed_after seat
xor_seats = refl

xor_none : placed_after 16 8 xor_net 0 ≡ []
unfolding placed_after
xor_none = refl

xor_all : all_placed xor_net (seat 0 0 0 1 ∷ seat 1 0 1 1 ∷ seat 2 1 0 2 ∷ []) ≡ true
unfolding xor_net seat
xor_all = refl

xor_homes : xor_placement.homes ≡ homes_in xor_net (seat 0 0 0 1 ∷ seat 1 0 1 1 ∷ seat 2 1 0 2 ∷ [])
unfolding xor_net xor_placement seat
xor_homes = refl

xor_each : (s : ℕ) → s < 2 → length (placed_after 16 8 xor_net s) < length (placed_after 16 8 xor_net (suc s))
xor_each zero l = let a = ap length xor_none in let b = ap length xor_inputs in omega (arith, a, b)
xor_each (suc zero) l = let a = ap length xor_inputs in let b = ap length xor_seats in omega (arith, a, b)
xor_each (suc (suc s)) l = absurd (omega (arith, l))

xor_stages : xor_placement.stages ≡ 2
unfolding xor_placement
xor_stages = refl

pub xor_placed : IsGreedy 16 8 xor_net xor_placement
unfolding xor_placement
xor_placed = record {
  filled = record { all = ap (all_placed xor_net) xor_seats ∙ xor_all; each = xor_each };
  homes = xor_homes ∙ sym (ap (homes_in xor_net) xor_seats);
}
