-- Where the items of a program end, by its tokens.
use Rattle.std.specs.Prelude.{ℕ, ◌≡◌, ◌+◌, ◌-◌, ◌==◌, ◌&&◌, Bool, true, false, List, [], ◌∷◌, None, Some, fold, length, map, if◌then◌else◌}
use Rattle.std.specs.List.{range_with_len}
use Rattle.pr_lang.specs.declared.tokens.Keyword.TheVariants as keyword
use Rattle.pr_lang.specs.declared.tokens.Kind.{Kind}
use Rattle.pr_lang.specs.declared.tokens.Kind.TheVariants.{Word}
use Rattle.pr_lang.specs.declared.tokens.Token.{Token}
use Rattle.pr_lens_source.specs.declared.sources.Span.{Span}
use Rattle.pr_lens_source.specs.Depths.{depth_after}
use Rattle.pr_lens_source.specs.Kinds.{is_close_curly, is_semi}
use Rattle.pr_lens_source.specs.Ranges.{first_between}
use Rattle.pr_lens_source.specs.Tokens.{kind_of}

-- an item that begins with this token ends with a curly bracket, and not with a semicolon
abbrev pub has_body : Kind → Bool
has_body (Word keyword.Fn) = true
has_body (Word keyword.For) = true
has_body _ = false

-- with the second token an item can end that begins with the first
abbrev pub ends_item : Kind → Kind → Bool
ends_item first kind = if has_body first then is_close_curly kind else is_semi kind

-- how deep brackets are open behind the tokens from one up to another, that one not included
unfoldable pub depth_between : List Token → ℕ → ℕ → ℕ
depth_between tokens from to = fold depth_after 0 (map (kind_of tokens) (range_with_len from (to - from)))

-- the item that begins with one token can end with another one
unfoldable pub is_item_end : List Token → ℕ → ℕ → Bool
is_item_end tokens from at = (depth_between tokens from (at + 1) == 0) && ends_item (kind_of tokens from) (kind_of tokens at)

-- the item that begins with a token: it ends with the first token with which it can
pub record IsItem (tokens : List Token) (from : ℕ) (span : Span) : Type 0 where
  pub first : span.first ≡ from
  pub last : first_between (is_item_end tokens from) from (length tokens) ≡ Some span.last

-- the items from a token on, one beside the other; what ends nowhere is none
abbrev pub AreItems : List Token → ℕ → List Span → Type 0
AreItems tokens from [] = first_between (is_item_end tokens from) from (length tokens) ≡ None
AreItems tokens from (span ∷ spans) = IsItem tokens from span × AreItems tokens (span.last + 1) spans
