-- Where the tokens and the items of a text stand.
use Rattle.std.specs.Prelude.{ℕ, ◌-◌, List, length, max, min, take, slice_range}
use Rattle.std.specs.List.{slice_get}
use Rattle.std.specs.Option.{option_map_or}
use Rattle.pr_lang.specs.declared.tokens.Kind.{Kind}
use Rattle.pr_lang.specs.declared.tokens.Kind.TheVariants.{End}
use Rattle.pr_lang.specs.declared.tokens.Token.{Token}
use Rattle.pr_lens_source.specs.declared.sources.Span.{Span}

-- the kind of a token, and End behind the last
abbrev pub kind_of : List Token → ℕ → Kind
kind_of tokens k = option_map_or (λ (t : Token). t.kind) (slice_get tokens k) End

-- the place of a token's first byte, and the text's end behind the last token
abbrev pub start_of : List ℕ → List Token → ℕ → ℕ
start_of text tokens k = option_map_or (λ (t : Token). min (length text) t.start) (slice_get tokens k) (length text)

-- the place behind its last byte
abbrev pub end_of : List ℕ → List Token → ℕ → ℕ
end_of text tokens k = option_map_or (λ (t : Token). min (length text) t.end) (slice_get tokens k) (length text)

-- its bytes
abbrev pub bytes_of : List ℕ → List Token → ℕ → List ℕ
bytes_of text tokens k = slice_range text (start_of text tokens k) (end_of text tokens k)

-- the text before it
abbrev pub text_before : List ℕ → List Token → ℕ → List ℕ
text_before text tokens k = take (start_of text tokens k) text

-- the token at which an item begins, and the last token behind the last item
abbrev pub first_of : List Token → List Span → ℕ → ℕ
first_of tokens spans item = option_map_or (λ (s : Span). s.first) (slice_get spans item) (length tokens - 1)

-- the token at which it ends, but none before its first; the last token behind the last item
abbrev pub last_of : List Token → List Span → ℕ → ℕ
last_of tokens spans item = option_map_or (λ (s : Span). max s.first s.last) (slice_get spans item) (length tokens - 1)

-- the text of the items before this one
abbrev pub front_text : List ℕ → List Token → List Span → ℕ → List ℕ
front_text text tokens spans item = text_before text tokens (first_of tokens spans item)
