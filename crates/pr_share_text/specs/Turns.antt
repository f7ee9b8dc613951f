-- The text while programs take turns.
use Rattle.std.specs.Prelude.{ℕ, List, ◌++◌, take}
use Rattle.pr_share_text.specs.Text.{Part, round_from, rounds}

-- the first r rounds, and of the next one the turns of the programs before number k
abbrev pub so_far : ℕ → ℕ → List Part → List ℕ
so_far r k parts = rounds r parts ++ round_from r 0 (take k parts)
