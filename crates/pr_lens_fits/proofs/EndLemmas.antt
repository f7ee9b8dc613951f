-- How many the items before one have together.
use Rattle.std.proofs.Common.{◌≡◌, ◌∙◌, ◌+◌, ◌-◌, ◌^◌, ◌<◌, ◌≤◌, ℕ, ◌++◌, ◌∷◌, [], List, map, min, sum_by, refl, sym, ap, subst, arith}
use Rattle.std.specs.List.{range_with_len}
use Rattle.std.proofs.lemmas.List.FromFn.{sum_by-map-range_with_len_more}
use Rattle.pr_lens_fits.specs.Ends.{PassesWith, together}

map-same : (ns : List ℕ) → map (λ n. n) ns ≡ ns
map-same [] = refl
map-same (n ∷ ns) = ap (λ (ms : List ℕ). n ∷ ms) (map-same ns)

sum_more : (each : ℕ → ℕ) (item : ℕ) → sum_by each (range_with_len 0 (item + 1)) ≡ sum_by each (range_with_len 0 item) + each item
sum_more each item =
    ap (λ (ns : List ℕ). sum_by each ns) (sym (map-same (range_with_len 0 (item + 1))))
    ∙ (sum_by-map-range_with_len_more each (λ n. n) 0 item item (omega arith)
    ∙ ap (λ (ns : List ℕ). sum_by each ns + each item) (map-same (range_with_len 0 item)))

-- one item more
pub together_more : (each : ℕ → ℕ) (item before one sum : ℕ) → before ≡ together each item → one ≡ each item → sum ≡ min (before + one) (2 ^ 64 - 1) → sum ≡ together each (item + 1)
together_more each item before one sum is_before is_one is_sum =
    let more = sum_more each item in
    capped (sum_by each (range_with_len 0 item)) (each item) (sum_by each (range_with_len 0 (item + 1))) before one sum (2 ^ 64 - 1) is_before is_one is_sum more
  where
    capped : (a b c before one sum most : ℕ) → before ≡ min a most → one ≡ b → sum ≡ min (before + one) most → c ≡ a + b → sum ≡ min c most
    capped a b c before one sum most e f g h = omega (arith, e, f, g, h)

-- an item with which they are more
pub passes_here : (each : ℕ → ℕ) (most items item before one sum : ℕ) → item < items → before ≡ together each item → before ≤ most → one ≡ each item → sum ≡ min (before + one) (2 ^ 64 - 1) → most < sum
    → PassesWith each most items item
passes_here each most items item before one sum less is few is_one is_sum more =
    let all = together_more each item before one sum is is_one is_sum in
    record { within = omega arith; few = subst (λ (n : ℕ). n ≤ most) is few; many = λ _. subst (λ (n : ℕ). most < n) all more }
