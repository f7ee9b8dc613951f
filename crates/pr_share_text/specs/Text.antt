-- The text of programs that take turns: in each round each program has its next lines, and before each line its number.
use Rattle.std.specs.Prelude.{◌≡◌, ◌≤◌, ℕ, zero, suc, ◌+◌, ◌*◌, ◌==◌, ◌&&◌, Bool, true, false, List, [], ◌∷◌, ◌++◌, length, take, drop, if◌then◌else◌}
use Rattle.std.specs.List.{flat_map, sum_by}
use Rattle.pr_base.specs.Rows.{row_line}
use Rattle.pr_samples.specs.Lines.{lines_of}

-- the greatest number of lines that a program has in a turn, and its result rows, all of them
pub record Part : Type 0 where
  pub quota : ℕ
  pub rows : List (List ℕ)

-- what stands before a line of program k, whose number is one digit: `k: `
abbrev pub mark : ℕ → List ℕ
mark k = (48 + k) ∷ 58 ∷ 32 ∷ []

-- the lines of these rows, each after its mark
abbrev pub marked : ℕ → List (List ℕ) → List ℕ
marked k rows = flat_map (λ row. mark k ++ row_line row) rows

-- the rows of a program in round r, counted from 0
abbrev pub rows_in : ℕ → Part → List (List ℕ)
rows_in r part = take part.quota (drop (r * part.quota) part.rows)

-- round r of these programs, of which the first has this number
abbrev pub round_from : ℕ → ℕ → List Part → List ℕ
round_from r k [] = []
round_from r k (part ∷ parts) = marked k (rows_in r part) ++ round_from r (k + 1) parts

-- the first n rounds
unfoldable pub rounds : ℕ → List Part → List ℕ
rounds zero parts = []
rounds (suc n) parts = rounds n parts ++ round_from n 0 parts

-- all rounds: no more than there are rows at all, since each quota is at least 1
abbrev pub share_text : List Part → List ℕ
share_text parts = rounds (sum_by (λ part. length part.rows) parts) parts

-- ---- taken apart again
-- a line begins with these bytes
abbrev pub begins_with : List ℕ → List ℕ → Bool
begins_with [] line = true
begins_with (m ∷ mark) [] = false
begins_with (m ∷ mark) (b ∷ line) = (m == b) && begins_with mark line

-- a line of program k without its mark, and nothing for a line of another
abbrev pub unmarked : ℕ → List ℕ → List ℕ
unmarked k line = if begins_with (mark k) line then drop 3 line ++ 10 ∷ [] else []

-- the lines of program k in a text, without their marks
abbrev pub lines_of_program : ℕ → List ℕ → List ℕ
lines_of_program k text = flat_map (unmarked k) (lines_of text).whole

-- each program has a line in a turn at least
abbrev pub HaveQuotas : List Part → Type 0
HaveQuotas [] = Unit {0}
HaveQuotas (part ∷ parts) = (1 ≤ part.quota) × HaveQuotas parts
