use Rattle.std.proofs.Common.{◌≡◌, ℕ, ◌+◌, ◌*◌, ◌/◌, ◌%◌, ◌^◌, ◌<◌, List, length, get_or, map, replicate, ap, ◌∙◌, arith, Fits, w8}
use Rattle.std.specs.Simd.Lanes.{zip2, Each1}
use Rattle.std.proofs.lemmas.Simd.{Each1-from_get_or}
use Rattle.pr_lanes.proofs.Blocks.{byte_of_lane}
use Rattle.pr_lanes.specs.Lanes.{HasLanes}
use Rattle.pr_lanes.proofs.LaneLaws.{own, splat_of, zip_of, map_of}
use Rattle.pr_lanes.proofs.ShiftLaws.{word_is_shifted}
use Rattle.pr_lanes.proofs.lanes.shifted_row.Goals as goal

-- before the last cast
abbrev words : List ℕ → List ℕ → List ℕ → List ℕ
words hi lo by = zip2 (λ a b. a / 2 ^ b) (zip2 (λ a b. a * b % 2 ^ 16) (zip2 (λ a b. (a + b) % 2 ^ 16) (zip2 (λ a b. a * b % 2 ^ 16) (map (λ a. a) hi) (replicate 16 256)) (map (λ a. a) lo)) by) (replicate 16 8)

abbrev word : ℕ → ℕ → ℕ → ℕ
word hi lo by = (hi * 256 + lo) * by % 65536 / 256

same : (hi lo by : ℕ) → hi < 256 → lo < 256 → (hi * 256 % 65536 + lo) % 65536 * by % 65536 / 256 ≡ word hi lo by
same hi lo by h l = let e : (hi * 256 % 65536 + lo) % 65536 ≡ hi * 256 + lo = omega arith in ap (λ x. x * by % 65536 / 256) e

small : (hi lo by : ℕ) → word hi lo by < 256
small hi lo by = omega arith

lanes : (hi lo by : List ℕ) → length hi ≡ 16 → length lo ≡ 16 → length by ≡ 16 → Each1 (Fits w8) hi → Each1 (Fits w8) lo → HasLanes 16 (words hi lo by) (λ k. word (get_or hi k 0) (get_or lo k 0) (get_or by k 0))
lanes hi lo by h l b fh fl =
    let up = map_of 16 (λ a. a) hi _ (own 16 hi h) in
    let down = map_of 16 (λ a. a) lo _ (own 16 lo l) in
    let all = zip_of 16 (λ a b. a / 2 ^ b) _ _ _ _ (zip_of 16 (λ a b. a * b % 2 ^ 16) _ _ _ _ (zip_of 16 (λ a b. (a + b) % 2 ^ 16) _ _ _ _ (zip_of 16 (λ a b. a * b % 2 ^ 16) _ _ _ _ up (splat_of 16 256)) down) (own 16 by b)) (splat_of 16 8) in
    record { long = all.long; each = λ k r. all.each k r ∙ same (get_or hi k 0) (get_or lo k 0) (get_or by k 0) (byte_of_lane hi h fh k r) (byte_of_lane lo l fl k r) }

pub overflow_cast-result : goal.overflow_cast-result
overflow_cast-result c =
    let is = lanes c.args.hi c.args.lo c.args.by c.requires.hi c.requires.lo c.requires.by c.fits-hi.1 c.fits-lo.1 in
    let long = is.long in
    Each1-from_get_or (Fits w8) _ 0 (λ k l. record { fits = let e = is.each k (omega arith) in omega (arith, small (get_or c.args.hi k 0) (get_or c.args.lo k 0) (get_or c.args.by k 0)) })

pub returns-clause-words : goal.returns-clause-words
returns-clause-words c = map_of 16 (λ a. a) _ _ (lanes c.args.hi c.args.lo c.args.by c.requires.hi c.requires.lo c.requires.by c.fits-hi.1 c.fits-lo.1)

pub returns-clause-bytes : goal.returns-clause-bytes
returns-clause-bytes c = λ k s l shift few.
    (map_of 16 (λ a. a) _ _ (lanes c.args.hi c.args.lo c.args.by c.requires.hi c.requires.lo c.requires.by c.fits-hi.1 c.fits-lo.1)).each k l
    ∙ ap (λ x. (get_or c.args.hi k 0 * 256 + get_or c.args.lo k 0) * x % 65536 / 256) shift
    ∙ word_is_shifted (get_or c.args.hi k 0) (get_or c.args.lo k 0) s (byte_of_lane c.args.hi c.requires.hi c.fits-hi.1 k l) (byte_of_lane c.args.lo c.requires.lo c.fits-lo.1 k l) few
