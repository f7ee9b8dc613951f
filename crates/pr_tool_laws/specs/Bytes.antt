-- Files whose texts are bytes.
use Rattle.std.specs.Prelude.{◌≡◌, ◌<◌, ℕ, List, Option, Some, slice_index}

-- each number of each file is a byte
abbrev pub HaveBytes : (List ℕ → Option (List ℕ)) → Type 0
HaveBytes files = (name text : List ℕ) → files name ≡ Some text → (i : ℕ) → slice_index text i < 256
