-- Checkpoints: a count of samples before a configuration in format 2.
use Rattle.std.specs.Prelude.{◌≡◌, ◌≤◌, ℕ, ◌+◌, ◌*◌, ◌/◌, ◌%◌, ◌^◌, ◌==◌, true, nat_le, List, [], ◌∷◌, ◌++◌, drop, slice_index, Option, None}
use Rattle.pr_conf.specs.Shape.{Shape}
use Rattle.pr_conf.specs.Rules.{IsLawful}
use Rattle.pr_code.specs.Spelling.{format_2, bytes_of_words, words_of, are_widths_within, has_bytes}
use Rattle.pr_code.specs.Reading.{words_of_bytes, shape_in}
use Rattle.pr_code.specs.Rules.{Rule, Broken, demand, first_broken, or_else, bad_from}

-- the bytes `PICK`, and the count's high and low half
abbrev pub mark_words : ℕ → List ℕ
mark_words count = 0x5049434B ∷ (count / 2 ^ 32) ∷ (count % 2 ^ 32) ∷ []

abbrev pub mark_of : ℕ → ℕ → ℕ → Shape → List ℕ
mark_of N P count c = bytes_of_words (mark_words count ++ words_of N P c)

-- the count of the second and the third word
abbrev pub count_of : List ℕ → ℕ
count_of words = slice_index words 1 * 2 ^ 32 + slice_index words 2

-- the count and the configuration that a checkpoint reads as, for so many columns
abbrev pub count_read : List ℕ → ℕ
count_read bytes = count_of (words_of_bytes bytes)

unfoldable pub shape_marked : ℕ → List ℕ → Shape
shape_marked N bytes = shape_in format_2.packed N (drop 3 (words_of_bytes bytes))

-- rule 9 for the first word, and rule 10 for a count that is too high, which is found at the third
abbrev pub mark_rules : List ℕ → List Rule
mark_rules words =
    (λ w. demand 9 (w == 0x5049434B))
    ∷ (λ w. None)
    ∷ (λ w. demand 10 (nat_le (slice_index words 1 * 2 ^ 32 + w) (2 ^ 40)))
    ∷ []

unfoldable pub bad_mark : ℕ → ℕ → List ℕ → Option Broken
bad_mark N P bytes =
    or_else (first_broken (mark_rules (words_of_bytes bytes)) 0 (words_of_bytes bytes)) (bad_from format_2 N P 3 bytes)

-- a file of a checkpoint
pub record IsMark (N P count : ℕ) (c : Shape) (bytes : List ℕ) : Type 0 where
  pub count_fits : count ≤ 2 ^ 40
  pub widths : are_widths_within 128 c ≡ true
  pub spelled : bytes ≡ mark_of N P count c

-- a file of some checkpoint
abbrev pub IsSomeMark : ℕ → ℕ → List ℕ → Type 0
IsSomeMark N P bytes = (n : ℕ) × ((c : Shape) × IsLawful N P c × (has_bytes c ≡ true) × IsMark N P n c bytes)
