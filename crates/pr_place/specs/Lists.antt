-- Lists of numbers that one list holds, by where each begins; last stands where the last one ends.
use Rattle.std.specs.Prelude.{◌≡◌, ℕ, ◌+◌, ◌-◌, ◌<◌, ◌≤◌, List, length, map, slice_index}
use Rattle.std.specs.List.{flat_map, range_with_len, slice_range}

-- the lists
unfoldable pub pieces : {X : Type 0} → List ℕ → List X → List (List X)
pieces starts items = map (λ g. slice_range items (slice_index starts g) (slice_index starts (g + 1))) (range_with_len 0 (length starts - 1))

-- lists one after the other
abbrev pub joined : List (List ℕ) → List ℕ
joined lists = flat_map (λ xs. xs) lists

-- so many lists are held, each of which is told by its place
pub record Holds (told : ℕ → List ℕ) (n : ℕ) (starts items : List ℕ) : Type 0 where
  pub long : length starts ≡ n + 1
  pub last : slice_index starts n ≡ length items
  pub order : (g : ℕ) → g < n → slice_index starts g ≤ slice_index starts (g + 1)
  pub inside : (g : ℕ) → g < n + 1 → slice_index starts g ≤ length items
  pub is : (g : ℕ) → g < n → slice_range items (slice_index starts g) (slice_index starts (g + 1)) ≡ told g
