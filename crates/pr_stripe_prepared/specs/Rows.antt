-- Rows with a lane for each item of a list.
use Rattle.std.specs.Prelude.{ℕ, ◌≡◌, ◌<◌, List, length, slice_index, slice_index_or}

-- this holds of each of n items
abbrev pub EachItem : {X : Type 0} → ℕ → List X → (ℕ → X → Type 0) → Type 0
EachItem {X} n xs Holds = (k : ℕ) (d : X) → k < n → Holds k (slice_index_or xs k d)

-- a row of what f makes of each of n items
pub record IsRow {X : Type 0} (n : ℕ) (f : ℕ → X → ℕ) (xs : List X) (row : List ℕ) : Type 0 where
  pub long : length row ≡ n
  pub each : EachItem n xs (λ k x. slice_index row k ≡ f k x)
