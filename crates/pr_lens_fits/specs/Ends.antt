-- Inputs and outputs, and the first item with which they are too many.
use Rattle.std.specs.Prelude.{ℕ, ◌≡◌, ◌+◌, ◌-◌, ◌^◌, ◌<◌, ◌≤◌, Bool, true, false, List, if◌then◌else◌, min, sum_by}
use Rattle.std.specs.Int.{div_ceil}
use Rattle.std.specs.List.{range_with_len}
use Rattle.pr_lang.specs.declared.tokens.Keyword.{Keyword}
use Rattle.pr_lang.specs.declared.tokens.Keyword.TheVariants.{Input, Output}
use Rattle.pr_lang.specs.declared.tokens.Kind.{Kind}
use Rattle.pr_lang.specs.declared.tokens.Kind.TheVariants.{Number, Word}
use Rattle.pr_lang.specs.declared.tokens.Token.{Token}
use Rattle.pr_lens_source.specs.declared.sources.Span.{Span}
use Rattle.pr_lens_source.specs.Tokens.{kind_of, first_of}
use Rattle.pr_lens_fits.specs.declared.ends.Counted.{Counted}

-- an item begins with this word
abbrev pub BeginsWith : Keyword → List Token → List Span → ℕ → Type 0
BeginsWith keyword tokens spans item = kind_of tokens (first_of tokens spans item) ≡ Word keyword

abbrev pub is_input : Kind → Bool
is_input (Word Input) = true
is_input _ = false

abbrev pub is_output : Kind → Bool
is_output (Word Output) = true
is_output _ = false

-- the bytes of a number of so many bits, where a width stands
abbrev pub width_bytes : Kind → ℕ
width_bytes (Number bits) = div_ceil (min bits 128) 8
width_bytes _ = 0

-- the bytes of an input in a sample; its width stands three tokens behind its first
abbrev pub input_bytes : List Token → List Span → ℕ → ℕ
input_bytes tokens spans item =
    if is_input (kind_of tokens (first_of tokens spans item)) then width_bytes (kind_of tokens (min (first_of tokens spans item + 3) (2 ^ 64 - 1))) else 0

-- how many outputs an item is
abbrev pub output_count : List Token → List Span → ℕ → ℕ
output_count tokens spans item = if is_output (kind_of tokens (first_of tokens spans item)) then 1 else 0

-- how much an item adds to what is counted, and the word that such an item begins with
abbrev pub amount_of : Counted → List Token → List Span → ℕ → ℕ
amount_of Counted.Bytes = input_bytes
amount_of Counted.Outputs = output_count

abbrev pub word_of : Counted → Keyword
word_of Counted.Bytes = Input
word_of Counted.Outputs = Output

-- how many the items before one have together, as far as 64 bits count
abbrev pub together : (ℕ → ℕ) → ℕ → ℕ
together each item = min (sum_by each (range_with_len 0 item)) (2 ^ 64 - 1)

-- the first item with which these are more than so many, and the number of items where they are not
pub record PassesWith (each : ℕ → ℕ) (most items item : ℕ) : Type 0 where
  pub within : item ≤ items
  pub few : together each item ≤ most
  pub many : item < items → most < together each (item + 1)
