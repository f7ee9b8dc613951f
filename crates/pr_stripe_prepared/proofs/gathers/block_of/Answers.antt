use Rattle.std.proofs.Common.{◌≡◌, ℕ, ◌+◌, ◌<◌, Bool, true, false, refl, List, cond, get_or, ◌∙◌, arith, nat_le}
use Rattle.std.proofs.lemmas.Bool.Decides.{nat_tests}
use Rattle.std.proofs.lemmas.Simd.{get_or-chunk}
use Rattle.pr_lanes.specs.Lanes.{is_place}
use Rattle.pr_stripe_prepared.proofs.gathers.block_of.Goals as goal

part : (b : Bool) (row xs : List ℕ) (from p : ℕ) → nat_le 128 p ≡ b → is_place p ≡ true → ((i : ℕ) → i < 16 → get_or xs i 0 ≡ get_or row (from + i) 0) → cond b 0 (get_or xs p 0) ≡ cond b 0 (get_or row (from + p) 0)
part true row xs from p e h same = refl
part false row xs from p e h same = let small : p < 16 = grind (arith, nat_tests) in same p small

pub returns : goal.returns
returns c = record { long = c.look_up.ensures.long; each = λ k l. c.look_up.ensures.each k l ∙ part _ c.args.row.now _ c.args.term.now.from (get_or c.args.term.now.picks k 0) refl (c.args.term.now.places k l) (λ i h. get_or-chunk c.args.term.now.from 16 c.args.row.now i 0 h) }
