-- The fabric that a file names.
use Rattle.std.specs.Prelude.{ℕ, Bool, List, [], ◌∷◌, take, drop, nat_eq}
use Rattle.std.specs.Cmp.Lexicographic.{pointwise}

-- the bytes of a file's second word
abbrev pub second_word : List ℕ → List ℕ
second_word bytes = take 4 (drop 4 bytes)

-- those of 32 columns and 16 registers
abbrev pub wide_word : List ℕ
wide_word = 0 ∷ 32 ∷ 0 ∷ 16 ∷ []

-- whether a file names the wide fabric
abbrev pub names_wide : List ℕ → Bool
names_wide bytes = pointwise nat_eq (second_word bytes) wide_word
