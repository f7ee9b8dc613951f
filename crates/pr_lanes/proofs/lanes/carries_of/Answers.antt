use Rattle.std.proofs.Common.{◌≡◌, ℕ, ◌+◌, ◌-◌, ◌%◌, ◌^◌, ◌<◌, List, length, get_or, refl, ap, ◌∙◌, arith}
use Rattle.std.specs.Simd.Lanes.{number_l, digits_l}
use Rattle.pr_lanes.proofs.Blocks.{byte_of_lane}
use Rattle.pr_lanes.specs.Lanes.{HasLanes}
use Rattle.pr_lanes.specs.Sums.{carry_from}
use Rattle.pr_lanes.proofs.LaneLaws.{own, zip_of}
use Rattle.pr_lanes.proofs.SumLaws.{digits_sum, digits_mod}
use Rattle.pr_lanes.proofs.lanes.carries_of.Goals as goal

-- the two wrapping sums are one
whole : (p q r : ℕ) → ((p + q) % 2 ^ 128 + r) % 2 ^ 128 ≡ (0 + p + q + r) % 256 ^ 16
whole p q r = omega arith

abbrev column : List ℕ → List ℕ → List ℕ → ℕ → ℕ
column ps ys cs j = get_or ps j 0 + get_or ys j 0 + get_or cs j 0

-- byte k of the sum
digit : (ps ys cs row : List ℕ) → length ps ≡ 16 → length ys ≡ 16 → length cs ≡ 16
    → row ≡ digits_l 256 16 (((number_l 256 ps + number_l 256 ys) % 2 ^ 128 + number_l 256 cs) % 2 ^ 128)
    → HasLanes 16 row (λ k. (column ps ys cs k + carry_from 0 (column ps ys cs) k) % 256)
digit ps ys cs row lp ly lc is =
    let total = 0 + number_l 256 ps + number_l 256 ys + number_l 256 cs in
    let e : row ≡ digits_l 256 16 total = is ∙ ap (digits_l 256 16) (whole (number_l 256 ps) (number_l 256 ys) (number_l 256 cs)) ∙ digits_mod 16 total in
    record {
      long = ap length e;
      each = λ k l. ap (λ ds. get_or ds k 0) e ∙ digits_sum 16 0 ps ys cs k lp ly lc l;
    }

-- what is left of a byte of the sum
left : (p y c k d : ℕ) → p < 256 → y < 256 → d ≡ (p + y + c + k) % 256 → ((d + (256 - p)) % 256 + (256 - y)) % 256 ≡ (c + k) % 256
left p y c k d lp ly e = omega arith

pub returns : goal.returns
returns c =
    let ps = c.args.first in
    let ys = c.args.second in
    let cs = c.args.given in
    let d = digit ps ys cs c.row_with.result c.requires.first c.requires.second c.requires.given
    (c.row_with.ensures ∙ ap (λ n. digits_l 256 16 (((n + c.number_of-2.result) % 2 ^ 128 + c.number_of-3.result) % 2 ^ 128)) c.number_of.ensures
    ∙ ap (λ n. digits_l 256 16 (((number_l 256 ps + n) % 2 ^ 128 + c.number_of-3.result) % 2 ^ 128)) c.number_of-2.ensures
    ∙ ap (λ n. digits_l 256 16 (((number_l 256 ps + number_l 256 ys) % 2 ^ 128 + n) % 2 ^ 128)) c.number_of-3.ensures) in
    let all = zip_of 16 (λ u v. (u + (256 - v)) % 256) _ _ _ _ (zip_of 16 (λ u v. (u + (256 - v)) % 256) _ _ _ _ d (own 16 ps c.requires.first)) (own 16 ys c.requires.second) in
    record {
      long = all.long;
      each = λ k l. all.each k l ∙ left (get_or ps k 0) (get_or ys k 0) (get_or cs k 0) (carry_from 0 (column ps ys cs) k) _ (byte_of_lane ps c.requires.first c.fits-first.1 k l) (byte_of_lane ys c.requires.second c.fits-second.1 k l) refl;
    }
