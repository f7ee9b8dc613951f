-- Rows of one length that lie one after the other in a list of bytes.
use Rattle.std.specs.Prelude.{ℕ, zero, suc, ◌*◌, ◌/◌, List, [], ◌∷◌, length, take, drop}

-- the n bytes of row `at`
abbrev pub row_in : ℕ → List ℕ → ℕ → List ℕ
row_in n bytes at = take n (drop (at * n) bytes)

-- the first `count` rows of n bytes
unfoldable pub rows_of : ℕ → ℕ → List ℕ → List (List ℕ)
rows_of zero n bytes = []
rows_of (suc count) n bytes = take n bytes ∷ rows_of count n (drop n bytes)

-- all whole rows of n bytes
abbrev pub rows_in : ℕ → List ℕ → List (List ℕ)
rows_in n bytes = rows_of (length bytes / n) n bytes
