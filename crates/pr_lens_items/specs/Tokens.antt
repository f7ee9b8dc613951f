-- Places among tokens.
use Rattle.std.specs.Prelude.{ℕ, ◌+◌, ◌++◌, ◌∷◌, [], List, Option, Some, None, min}

-- the token so many tokens later, as far as 32 bits count
unfoldable pub later : ℕ → ℕ → ℕ
later at tokens = min (at + tokens) 4294967295

-- the widths of a frame with a declared one, where there is one, whose colon is this token
abbrev pub widths_with : ℕ → Option ℕ → List ℕ → List ℕ
widths_with at None widths = widths
widths_with at (Some bits) widths = widths ++ later at 1 ∷ []

-- the token behind a declared width, where there is one
abbrev pub token_behind : ℕ → Option ℕ → ℕ
token_behind at None = at
token_behind at (Some bits) = later at 2
