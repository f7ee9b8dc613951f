-- Lists by number.
use Rattle.std.proofs.Common.{◌≡◌, ℕ, ◌+◌, [], ◌∷◌, ◌++◌, length, arith}
use Rattle.std.proofs.lemmas.List.FromFn.{map-range_with_len_more, length-map-range_with_len}
use Rattle.pr_cut_units.specs.Parts.{each}

pub length-each : {A : Type 0} (f : ℕ → A) (n : ℕ) → length (each n f) ≡ n
length-each f n = length-map-range_with_len f 0 n

pub each_more : {A : Type 0} (f : ℕ → A) (n : ℕ) → each (n + 1) f ≡ each n f ++ f n ∷ []
each_more f n = map-range_with_len_more f 0 n n (omega arith)
