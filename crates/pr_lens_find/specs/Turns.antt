-- Where answers turn.
use Rattle.std.specs.Prelude.{ℕ, ◌+◌, ◌-◌, ◌<◌, ◌≤◌}

-- a count above one and up to another of which the answer is yes, where it is no of one less
pub record IsTurn (No Yes : ℕ → Type 0) (low high count : ℕ) : Type 0 where
  pub above : low < count
  pub within : count ≤ high
  pub yes : Yes count
  pub no : No (count - 1)

-- the item with which the answer becomes yes of so many items: it is no of those before it, and yes of those up to it; the
-- number of items where it is no of them all
pub record IsItemWith (No Yes : ℕ → Type 0) (items item : ℕ) : Type 0 where
  pub within : item ≤ items
  pub yes : item < items → Yes (item + 1)
  pub no : 0 < item → No item
