-- The generated texts.
use Rattle.std.specs.Prelude.{ℕ, zero, suc, ◌+◌, ◌*◌, ◌%◌, List, [], ◌∷◌, ◌++◌, map, codes, decimal}
use Rattle.std.specs.List.{flat_map}

-- the numbers from `first` on, `count` of them
unfoldable pub numbers_from : ℕ → ℕ → List ℕ
numbers_from first zero = []
numbers_from first (suc count) = first ∷ numbers_from (suc first) count

-- the pieces in a row, with the separator between two of them
abbrev pub joined : List ℕ → List (List ℕ) → List ℕ
joined between [] = []
joined between (piece ∷ pieces) = piece ++ flat_map (λ next. between ++ next) pieces

-- entry i of the table, from 1
abbrev pub entry_of : ℕ → ℕ
entry_of i = (37 * i + 11) % 256

-- the table of a program of k turns
unfoldable pub table_text : ℕ → List ℕ
table_text k = joined (codes ", ") (map (λ i. decimal (entry_of i)) (numbers_from 1 k))

-- the program of k turns, line by line
unfoldable pub program_text : ℕ → List ℕ
program_text k =
    codes "input x:16;\n"
    ++ (codes "const c = [" ++ table_text k ++ codes "];\n")
    ++ codes "let t[0] = x;\n"
    ++ (codes "for i in 1.." ++ decimal (k + 1) ++ codes " { let t[i]:16 = (t[i-1] + c[i-1]) ^ t[i-1]@1; }\n")
    ++ (codes "output y = t[" ++ decimal k ++ codes "];\n")

-- line j of the samples, from 0
abbrev pub sample_line : ℕ → List ℕ
sample_line j = decimal ((40503 * j + 12345) % 65536) ++ codes "\n"

-- the first `count` lines of the samples
unfoldable pub sample_lines : ℕ → List ℕ
sample_lines count = flat_map sample_line (numbers_from 0 count)

-- the thousand lines of samples
abbrev pub samples_text : List ℕ
samples_text = sample_lines 1000
