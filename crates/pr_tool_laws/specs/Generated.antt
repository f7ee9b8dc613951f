-- The samples that the generated text of samples gives.
use Rattle.std.specs.Prelude.{ℕ, ◌+◌, ◌*◌, ◌%◌, List, [], ◌∷◌, map}
use Rattle.std.specs.List.{range_with_len}
use Rattle.pr_samples.specs.Fed.{Fed, End}

-- the number of sample j, from 0
abbrev pub sample_number : ℕ → ℕ
sample_number j = (40503 * j + 12345) % 65536

-- sample j has this number alone
abbrev pub sample_row : ℕ → List ℕ
sample_row j = sample_number j ∷ []

-- the first `count` samples
abbrev pub sample_rows : ℕ → List (List ℕ)
sample_rows count = map sample_row (range_with_len 0 count)

-- they are fed, and the file ends
abbrev pub all_fed : ℕ → Fed
all_fed count = record { samples = sample_rows count; ending = End }
