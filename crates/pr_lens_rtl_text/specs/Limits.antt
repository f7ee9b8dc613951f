-- Texts that have too many bytes.
use Rattle.std.specs.Prelude.{◌<◌, ⊤, ℕ, List, length}
use Rattle.pr_lens_rtl_text.specs.declared.faults.NoText.{NoText}
use Rattle.pr_lens_rtl_text.specs.declared.faults.NoText.TheVariants.{Long, Memory}

-- the most bytes of a text
abbrev pub most_text_bytes : ℕ
most_text_bytes = 16777216

-- why a text is not made
abbrev pub IsTooLong : List ℕ → NoText → Type 0
IsTooLong text Long = most_text_bytes < length text
IsTooLong text (Memory e) = ⊤
