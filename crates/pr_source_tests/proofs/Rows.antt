-- Rows, number by number.
use Rattle.std.proofs.Common.{◌≡◌, ℕ, zero, suc, ◌+◌, ◌^◌, ◌<◌, List, [], ◌∷◌, length, get_or, arith}
use Rattle.pr_base.specs.Rows.{IsRow}

pub row_is : (widths row : List ℕ) → length row ≡ length widths → ((k : ℕ) → k < length widths → get_or row k 0 < 2 ^ get_or widths k 0) → IsRow widths row
row_is [] [] same below = tt
row_is [] (n ∷ row) same below = absurd (omega (arith, same))
row_is (w ∷ widths) [] same below = absurd (omega (arith, same))
row_is (w ∷ widths) (n ∷ row) same below = (below 0 (omega arith), row_is widths row (omega (arith, same)) (λ k h. below (suc k) (omega (arith, h))))
