-- The items of a text, by their tokens.
use Rattle.std.specs.Prelude.{ℕ, ◌<◌, ◌≤◌, List, length, nat_le, position, unwrap_or}
use Rattle.std.specs.List.{AllWithin, HoldsAt}
use Rattle.pr_lang.specs.declared.tokens.Token.{Token}
use Rattle.pr_lens_source.specs.declared.sources.Span.{Span}
use Rattle.pr_lens_source.specs.Tokens.{first_of, last_of}

-- an item begins at one of so many tokens, and ends at the same or at a later one of them
pub record IsSpanWithin (count : ℕ) (span : Span) : Type 0 where
  pub order : span.first ≤ span.last
  pub within : span.last < count

-- the first item that does not end before a token, and the number of items where there is none
abbrev pub item_of : List Span → ℕ → ℕ
item_of spans token = unwrap_or (position (λ (s : Span). nat_le token s.last) spans) (length spans)

pub record IsItemAt (spans : List Span) (token item : ℕ) : Type 0 where
  pub within : item ≤ length spans
  pub before : AllWithin (λ (s : Span). s.last < token) spans 0 item
  pub here : item < length spans → HoldsAt (λ (s : Span). token ≤ s.last) spans item

-- a token of an item, from its first to its last; behind the last item it is the last of all tokens
pub record StandsIn (tokens : List Token) (spans : List Span) (item token : ℕ) : Type 0 where
  pub from : first_of tokens spans item ≤ token
  pub to : token ≤ last_of tokens spans item
