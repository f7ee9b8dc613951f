use Rattle.std.proofs.Common.{◌≡◌, ℕ, ◌+◌, ◌*◌, ◌/◌, ◌%◌, ◌<◌, Bool, true, false, refl, List, cond, get_or, sym, ap, subst, ◌∙◌, arith, w8, nat_le}
use Rattle.std.proofs.lemmas.Bool.Decides.{nat_tests}
use Rattle.std.proofs.lemmas.Simd.{Each1-from_get_or, SwzOk-from_Each1, length-swz_l, get_or-swz_l}
use lib.Dec.{T}
use Rattle.pr_lanes.specs.Lanes.{HasLanes, is_place}
use Rattle.pr_lanes.proofs.lanes.look_up.Goals as goal

fits : (x : ℕ) → is_place x ≡ true → T (is_place x)
fits x h = subst T (sym h) tt

read : (b : Bool) (row wide : List ℕ) (k at x : ℕ) → at ≡ k → nat_le 128 x ≡ b → is_place x ≡ true → k < 32 → HasLanes 32 wide (λ k. get_or row (k % 16) 0) → cond b 0 (get_or wide (16 * (at / 16) + x) 0) ≡ cond b 0 (get_or row x 0)
read true row wide k at x s e h l w = refl
read false row wide k at x s e h l w =
    let small : x < 16 = grind (arith, nat_tests) in
    w.each (16 * (at / 16) + x) (omega arith) ∙ ap (λ i. get_or row i 0) (omega arith)

pub swizzle : goal.swizzle
swizzle c = SwzOk-from_Each1 w8 16 2 32 0 c.args.places refl (omega (arith, c.requires.long)) (Each1-from_get_or _ c.args.places 0 (λ i l. fits (get_or c.args.places i 0) (c.requires.places i (omega (arith, c.requires.long)))))

pub returns : goal.returns
returns c =
    let js = c.args.places in
    let long = c.requires.long in
    record {
      long = length-swz_l w8 16 c.twice.result 0 js ∙ long;
      each = λ k l. get_or-swz_l w8 16 c.twice.result 0 js k (omega arith) ∙ read _ c.args.row c.twice.result k (0 + k) _ (omega arith) refl (c.requires.places k l) l c.twice.ensures;
    }
