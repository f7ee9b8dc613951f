-- What stages make of whole lists of rows, one stage after the other.
use Rattle.std.specs.Prelude.{ℕ, zero, suc, List, [], ◌∷◌, length, map, take}

-- one stage: the state that it begins with, and the state and the row that it makes of its state and a row
pub record Step (S R : Type 0) : Type 0 where
  pub init : S
  pub next : S → R → S
  pub out : S → R → R

-- the state after these rows
abbrev pub state_over : {S R : Type 0} → Step S R → S → List R → S
state_over m st [] = st
state_over m st (x ∷ xs) = state_over m (m.next st x) xs

-- the rows that a stage makes of these rows
abbrev pub rows_over : {S R : Type 0} → Step S R → S → List R → List R
rows_over m st [] = []
rows_over m st (x ∷ xs) = m.out st x ∷ rows_over m (m.next st x) xs

-- the rows that stage s reads: the samples at stage 0, and above it all rows of the stage below.
-- A pipeline M gives each stage number its step, and of v stages the results are read from the rows at v.
unfoldable pub rows : {S R : Type 0} → (ℕ → Step S R) → ℕ → List R → List R
rows M zero xs = xs
rows M (suc s) xs = rows_over (M s) (M s).init (rows M s xs)

-- the state of stage s after j samples
unfoldable pub state_after : {S R : Type 0} → (ℕ → Step S R) → ℕ → ℕ → List R → S
state_after M s j xs = state_over (M s) (M s).init (take j (rows M s xs))

-- the results of v stages: what a tap reads in each row that comes out of the last one
abbrev pub through : {S R B : Type 0} → (ℕ → Step S R) → ℕ → (R → B) → List R → List B
through M v tap xs = map tap (rows M v xs)

-- a pipeline whose states and rows are lists of bytes
abbrev pub BytePipeline : Type 0
BytePipeline = ℕ → Step (List ℕ) (List ℕ)

-- the same stages, each beginning where these samples left it
abbrev pub resumed : {S R : Type 0} → (ℕ → Step S R) → List R → ℕ → Step S R
resumed M xs s = record (M s) { init = state_after M s (length xs) xs }
